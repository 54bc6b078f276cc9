use Rattle.std.proofs.Common.{length}
use Rattle.lot_core.specs.Reading.{SpellsFront}
use Rattle.lot_core.proofs.script.events.Given as goal

abbrev pub invariant-loop-event : goal.invariant-loop-event
invariant-loop-event l = SpellsFront l.lines l.events.items l.rest

abbrev pub decreases-loop-event : goal.decreases-loop-event
decreases-loop-event l = length l.rest
