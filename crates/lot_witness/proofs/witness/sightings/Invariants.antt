use Rattle.std.proofs.Common.{length}
use denote.Text.{Utf8}
use denote.Shadow.{shadow}
use Rattle.lot_witness.specs.Spelling.{BeginsWithAll}
use Rattle.lot_witness.proofs.witness.sightings.Given as goal

abbrev pub invariant-loop-sighting : goal.invariant-loop-sighting
invariant-loop-sighting l = shadow (Utf8 l.rest) × BeginsWithAll l.lines l.sightings.items l.rest

abbrev pub decreases-loop-sighting : goal.decreases-loop-sighting
decreases-loop-sighting l = length l.rest
