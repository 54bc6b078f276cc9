use Rattle.std.proofs.Common.{vec_len}
use Rattle.lot_places.specs.Places.{AreBare}
use Rattle.lot_places.proofs.places.Places.discard.Given as goal

abbrev pub invariant-loop-root : goal.invariant-loop-root
invariant-loop-root g l = AreBare l.slots.items

abbrev pub decreases-loop-root : goal.decreases-loop-root
decreases-loop-root g l = vec_len l.slots
