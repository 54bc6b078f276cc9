use Rattle.std.proofs.Common.{rules}
use Rattle.lot_sync.proofs.lot.Lot.leave.Goals as goal

pub put-requires-clause-room : goal.put-requires-clause-room
put-requires-clause-room g c = search rules
