use Rattle.std.proofs.Common.{◌≡◌, drop}
use Rattle.lot_events.specs.Reading.{first_of}
use Rattle.lot_events.proofs.reading.first_kind.Given as goal

abbrev pub invariant-loop-kind : goal.invariant-loop-kind
invariant-loop-kind l = first_of l.kinds l.text ≡ first_of (drop l.kind-index l.kinds) l.text
