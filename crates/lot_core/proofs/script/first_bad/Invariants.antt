use Rattle.lot_core.proofs.Scripts.{IsSoFar}
use Rattle.lot_core.proofs.script.first_bad.Given as goal

abbrev pub invariant-loop-number : goal.invariant-loop-number
invariant-loop-number l = IsSoFar l.lines l.rest l.number
