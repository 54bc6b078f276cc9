use Rattle.std.proofs.Common.{rules}
use Rattle.lot_park.proofs.lot.ParkingLot.ensure.Goals as goal

pub returns : goal.returns
returns g c = search rules
