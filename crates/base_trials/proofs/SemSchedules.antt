-- The rights of the tests' schedules, as the opening gave them.
use Rattle.std.proofs.Common.{◌≡◌, ℕ, List, length, refl, sym, ap, subst, ◌∙◌, arith}
use Rattle.std.proofs.lemmas.List.{length-replicate}
use Rattle.std.specs.Prelude.{[]}
use Rattle.atomic_table.specs.Seated.{TableId}
use Rattle.lot_rights.specs.Shown.{PassShown, RootShown}
use Rattle.lot_rights.specs.Start.{pass_at, root_at}
use Rattle.lot_sems.specs.declared.views.SemPassView.{SemPassView}
use Rattle.lot_sems.specs.declared.views.SemRootView.{SemRootView}
use Rattle.lot_sems.specs.World.{Numbers, key_count}
use Rattle.lot_sems.specs.Rule.{meaning}
use Rattle.base_trials.specs.SemSchedules.{IsOne, IsFree, HasLine}

pub opened_one : (size : Numbers) (n : ℕ) (xs : List ℕ) → size ≡ record { threads = n; first_sem = 1; permits = xs }
    → length xs ≡ 1 → IsOne size
opened_one size n xs e one = (ap (λ (y : Numbers). y.first_sem) e, ap (λ (y : Numbers). length y.permits) e ∙ one)

module _ (size : Numbers) (z : TableId) (is_one : IsOne size) where
  pub fresh_is_free : (t : ℕ) (p : PassShown SemPassView) → p ≡ pass_at (meaning size) z t → IsFree z t p
  fresh_is_free t p e =
      let two : key_count size ≡ 2 = omega (arith, is_one.0, is_one.1) in
      subst (IsFree z t) (sym e) ((refl, refl, length-replicate {A = ℕ} (key_count size) 0 ∙ two), (refl, refl))

  pub fresh_is_empty : (q : RootShown SemRootView) → q ≡ root_at (meaning size) z 1 → HasLine z [] q
  fresh_is_empty q e = subst (HasLine z []) (sym e) (refl, refl, refl, refl)
