use Rattle.std.proofs.Common.{ℕ, ◌<◌, ◌+◌}
use Rattle.lot_core.specs.Sound.{IsSoundSemaphore}
use Rattle.lot_core.specs.State.{state_of}
use Rattle.lot_core.proofs.state.State.are_semaphores_sound.Given as goal

abbrev pub invariant-loop-i : goal.invariant-loop-i
invariant-loop-i l = (j : ℕ) → j < l.i → IsSoundSemaphore (state_of l.self) (l.self.sems.first_sem + j)
