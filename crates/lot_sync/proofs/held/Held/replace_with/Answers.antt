use Rattle.std.proofs.Common.{ap, refl}
use Rattle.lot_sync.specs.Lot.{HeldView}
use Rattle.lot_sync.proofs.held.Held.replace_with.Goals as goal

pub returns : goal.returns
returns g c = (
  c.work-value.result,
  rw (ap (λ (h : HeldView _). h.value) c.self.view_is) at c.work-value.ensures,
  ap (λ k. record { key = k; value = c.work-value.result.0 }) (ap (λ (h : HeldView _). h.key) c.self.view_is),
  refl,
)
