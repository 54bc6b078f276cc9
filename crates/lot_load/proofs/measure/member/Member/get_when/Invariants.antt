use Rattle.lot_load.specs.Numbers.{HasNumber}
use Rattle.lot_load.proofs.measure.member.Member.get_when.Given as goal

abbrev pub invariant-loop : goal.invariant-loop
invariant-loop g l = (goal.iterator-loop g).can_next l.iterator' × (goal.iterator-loop g).is_finite l.iterator' × HasNumber l.pass l.held
