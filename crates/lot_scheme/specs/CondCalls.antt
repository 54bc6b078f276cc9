-- What the calls on a condition's word make of the condition's root.
use Rattle.std.specs.Prelude.{◌≡◌}
use Rattle.lot_rights.specs.Shown.{RootShown}
use Rattle.lot_conds.specs.declared.views.CondRootView.{CondRootView}
use Rattle.lot_whole.specs.declared.views.LotRootView.{LotRootView}
use Rattle.lot_whole.specs.declared.views.LotRootView.TheVariants.{Cond}
use Rattle.lot_whole.specs.Standing.{IsCondRoot}
use Rattle.lot_scheme.specs.Roots.{with_root}

-- the root was that of a condition, of which this is known now
pub record IsCondNow (root : RootShown LotRootView) (own : CondRootView) (now : RootShown LotRootView) : Type 0 where
  pub kind : IsCondRoot root.own
  pub is : now ≡ with_root root (Cond own)
