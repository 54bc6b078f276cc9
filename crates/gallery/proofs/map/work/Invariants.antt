use Rattle.gallery.specs.Counters.{HasAddedBelow}
use Rattle.gallery.proofs.map.work.Given as goal

abbrev pub invariant-loop-counter : goal.invariant-loop-counter
invariant-loop-counter g l = HasAddedBelow l.lot l.counter l.fn.pass l.pass
