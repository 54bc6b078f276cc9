use Rattle.std.proofs.Common.{rules}
use Rattle.lot_park.proofs.lot.ParkingLot.close.Goals as goal

pub returns-clause-roots : goal.returns-clause-roots
returns-clause-roots g c = search rules
