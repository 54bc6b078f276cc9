use Rattle.std.proofs.Common.{length}
use Rattle.lot_bucket.specs.Queue.{line_of}
use Rattle.lot_table.proofs.Moving.{IsMoving}
use Rattle.lot_table.proofs.moves.move_line.Given as goal

abbrev pub invariant-loop-thread : goal.invariant-loop-thread
invariant-loop-thread g l = IsMoving l.key l.fn.from l.fn.to l.from l.to

abbrev pub decreases-loop-thread : goal.decreases-loop-thread
decreases-loop-thread g l = length (line_of l.key l.from.queue)
