use Rattle.lot_calls.specs.Workers.{ComesBack}
use Rattle.gallery.proofs.tasks.work.Given as goal

abbrev pub invariant-loop : goal.invariant-loop
invariant-loop g l =
    (goal.iterator-loop g).can_next l.iterator' × (goal.iterator-loop g).is_finite l.iterator' × ComesBack l.lot l.fn.pass l.pass
