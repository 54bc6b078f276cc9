use Rattle.std.proofs.Common.{vec_len}
use Rattle.lot_table.proofs.version.Version.discard.Given as goal

abbrev pub decreases-loop-slot : goal.decreases-loop-slot
decreases-loop-slot g l = vec_len l.slots
