use Rattle.std.proofs.Common.{rules}
use Rattle.lot_calls.proofs.crew.work_here.Goals as goal

pub returns : goal.returns
returns g c = search rules
