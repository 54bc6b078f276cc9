use Rattle.std.proofs.Common.{take}
use Rattle.lot_core.proofs.SemaphoreRows.{AreNew}
use Rattle.lot_core.proofs.semaphores.Semaphores.new.Given as goal

abbrev pub invariant-loop-number : goal.invariant-loop-number
invariant-loop-number l = AreNew l.threads (take l.number-index l.permits) l.items.items
