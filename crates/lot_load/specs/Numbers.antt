-- What a thread has that relays or takes turns, while it works on the number.
use Rattle.std.specs.Prelude.{◌≡◌}
use Rattle.lot_sync.specs.Lot.{PassView, HeldView}
use Rattle.lot_sync.specs.Holding.{Holding}
use Rattle.lot_load.specs.declared.measure.value.Number.{Number}

-- the pass owns lock 0 alone, and has its number
pub record HasNumber (pass : PassView Number) (held : HeldView Number) : Type 0 where
  pub key : held.key ≡ 0
  pub holding : Holding (λ x y. Unit {0}) pass held
