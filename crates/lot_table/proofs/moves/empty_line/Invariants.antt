use Rattle.std.proofs.Common.{length}
use Rattle.lot_bucket.specs.Queue.{line_of}
use Rattle.lot_table.proofs.Moving.{IsLeaving}
use Rattle.lot_table.proofs.moves.empty_line.Given as goal

abbrev pub invariant-loop-thread : goal.invariant-loop-thread
invariant-loop-thread g l = IsLeaving l.key l.fn.bucket l.bucket

abbrev pub decreases-loop-thread : goal.decreases-loop-thread
decreases-loop-thread g l = length (line_of l.key l.bucket.queue)
