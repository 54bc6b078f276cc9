use Rattle.std.proofs.Common.{ℕ, ◌<◌}
use Rattle.lot_core.specs.Steps.{IsTrying}
use Rattle.lot_core.specs.State.{state_of}
use Rattle.lot_core.proofs.state.State.someone_tries.Given as goal

abbrev pub invariant-loop-thread : goal.invariant-loop-thread
invariant-loop-thread l = (t : ℕ) → t < l.thread → IsTrying (state_of l.self) t l.lock → ⊥
