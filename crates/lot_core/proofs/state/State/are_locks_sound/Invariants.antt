use Rattle.std.proofs.Common.{ℕ, ◌<◌}
use Rattle.lot_core.specs.Sound.{IsSoundLock}
use Rattle.lot_core.specs.State.{state_of}
use Rattle.lot_core.proofs.state.State.are_locks_sound.Given as goal

abbrev pub invariant-loop-lock : goal.invariant-loop-lock
invariant-loop-lock l = (k : ℕ) → k < l.lock → IsSoundLock (state_of l.self) k
