use Rattle.std.proofs.Common.{ℕ}
use Rattle.lot_park.specs.Parking.{LooksInVain}
use Rattle.lot_park.proofs.lot.ParkingLot.sleep.Given as goal

abbrev pub invariant-loop : goal.invariant-loop
invariant-loop g l = (n : ℕ) × LooksInVain g.S.Scheme.looked n l.fn.pass l.pass
