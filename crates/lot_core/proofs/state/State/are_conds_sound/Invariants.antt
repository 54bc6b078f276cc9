use Rattle.std.proofs.Common.{ℕ, ◌<◌, ◌+◌}
use Rattle.lot_core.specs.Sound.{IsSoundCond}
use Rattle.lot_core.specs.State.{state_of}
use Rattle.lot_core.proofs.state.State.are_conds_sound.Given as goal

abbrev pub invariant-loop-i : goal.invariant-loop-i
invariant-loop-i l = (k : ℕ) → k < l.i → IsSoundCond (state_of l.self) (l.self.locks + k)
