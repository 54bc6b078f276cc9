use Rattle.lot_core.specs.State.{state_of}
use Rattle.lot_witness.proofs.Runs.{IsSoFar}
use Rattle.lot_witness.proofs.judging.follow.Given as goal

abbrev pub invariant-loop-before : goal.invariant-loop-before
invariant-loop-before l = IsSoFar (state_of l.initial.state) l.sightings l.before (state_of l.state)
