use Rattle.lot_core.specs.State.{state_of}
use Rattle.lot_core.proofs.Runs.{IsSoFar}
use Rattle.lot_core.proofs.state.State.run.Given as goal

abbrev pub invariant-loop-i : goal.invariant-loop-i
invariant-loop-i l = IsSoFar (state_of l.initial.self) l.events l.i (state_of l.self)
