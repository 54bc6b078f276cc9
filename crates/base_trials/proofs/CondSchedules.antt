-- The rights of the tests' schedules, as the opening gave them.
use Rattle.std.proofs.Common.{◌≡◌, ℕ, refl, sym, subst}
use Rattle.atomic_table.specs.Seated.{TableId}
use Rattle.lot_rights.specs.Shown.{PassShown, RootShown}
use Rattle.lot_rights.specs.Start.{pass_at, root_at}
use Rattle.lot_conds.specs.declared.views.CondPassView.{CondPassView}
use Rattle.lot_conds.specs.declared.views.CondRootView.{CondRootView}
use Rattle.lot_conds.specs.declared.views.Size.{Size}
use Rattle.lot_conds.specs.Rule.{meaning}
use Rattle.base_trials.specs.CondSchedules.{IsFree, IsEmpty}

module _ (size : Size) (z : TableId) where
  pub fresh_is_free : (t : ℕ) (p : PassShown CondPassView) → p ≡ pass_at (meaning size) z t → IsFree z t p
  fresh_is_free t p e = subst (IsFree z t) (sym e) (refl, refl, refl, refl)

  pub fresh_is_empty : (q : RootShown CondRootView) → q ≡ root_at (meaning size) z 1 → IsEmpty z q
  fresh_is_empty q e = subst (IsEmpty z) (sym e) (refl, refl, refl, refl)
