use Rattle.std.proofs.Common.{rules}
use Rattle.lot_park.proofs.lot.fn.ParkingLot.park_conditionally.act.Goals as goal

pub returns : goal.returns
returns g c = search rules
