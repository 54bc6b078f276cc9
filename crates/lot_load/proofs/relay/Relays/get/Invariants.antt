use Rattle.lot_load.specs.Buffers.{HasBuffer}
use Rattle.lot_load.proofs.relay.Relays.get.Given as goal

abbrev pub invariant-loop : goal.invariant-loop
invariant-loop g l = (goal.iterator-loop g).can_next l.iterator' × (goal.iterator-loop g).is_finite l.iterator' × HasBuffer l.pass l.held
