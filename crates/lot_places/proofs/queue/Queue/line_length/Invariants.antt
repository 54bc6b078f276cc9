use Rattle.std.proofs.Common.{◌≡◌, ◌+◌, ◌-◌, length, drop}
use Rattle.lot_places.specs.Queue.{line_of}
use Rattle.lot_places.specs.Links.{StandsIn}
use Rattle.lot_places.proofs.queue.Queue.line_length.Given as goal

abbrev pub invariant-loop-cursor : goal.invariant-loop-cursor
invariant-loop-cursor l =
    StandsIn l.self-inside.links l.cursor
    × (l.count + length (line_of l.key (drop l.cursor.passed l.self.pairs)) ≡ length (line_of l.key l.self.pairs))

abbrev pub decreases-loop-cursor : goal.decreases-loop-cursor
decreases-loop-cursor l = length l.self-inside.links.used - l.cursor.passed
