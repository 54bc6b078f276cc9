use Rattle.std.proofs.Common.{rules}
use Rattle.lot_seeking.proofs.seeking.park.Goals as goal

pub returns : goal.returns
returns g c = search rules
