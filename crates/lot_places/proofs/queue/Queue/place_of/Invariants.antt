use Rattle.std.proofs.Common.{◌≢◌, ◌-◌, length, take}
use Rattle.std.specs.List.{All}
use Rattle.lot_places.specs.Links.{StandsIn}
use Rattle.lot_places.proofs.queue.Queue.place_of.Given as goal

abbrev pub invariant-loop-cursor : goal.invariant-loop-cursor
invariant-loop-cursor l = StandsIn l.self-inside.links l.cursor × All (λ p. p.0 ≢ l.thread) (take l.cursor.passed l.self.pairs)

abbrev pub decreases-loop-cursor : goal.decreases-loop-cursor
decreases-loop-cursor l = length l.self-inside.links.used - l.cursor.passed
