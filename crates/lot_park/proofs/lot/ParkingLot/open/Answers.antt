use Rattle.std.proofs.Common.{rules}
use Rattle.lot_park.proofs.lot.ParkingLot.open.Goals as goal

pub invariant_of-result : goal.invariant_of-result
invariant_of-result g c = search rules

pub returns-in-Ok-new-clause-ok : goal.returns-in-Ok-new-clause-ok
returns-in-Ok-new-clause-ok g c = search rules
