use Rattle.std.proofs.Common.{◌≡◌, ◌-◌, length, drop}
use Rattle.lot_places.specs.Waiting.{lying_at}
use Rattle.lot_places.specs.Counted.{AreCounted, threads_of}
use Rattle.lot_places.specs.Links.{StandsIn}
use Rattle.lot_places.proofs.Lines.{IsTakenTo}
use Rattle.lot_places.proofs.queue.Queue.take_count.Given as goal

abbrev pub invariant-loop-taken : goal.invariant-loop-taken
invariant-loop-taken l =
    record {
      stands : StandsIn l.self-inside.links l.cursor;
      size : length l.self-inside.pairs.items ≡ l.self-inside.links.room;
      counted : AreCounted l.self-inside.counts (threads_of (lying_at l.self-inside.pairs.items l.self-inside.links.used));
      room : l.self-inside.links.room ≡ l.fn.self.room;
      taking : IsTakenTo l.key l.count l.fn.self.pairs
          (lying_at l.self-inside.pairs.items l.self-inside.links.used) l.out l.cursor.passed l.taken;
      beyond : drop l.taken l.out ≡ drop l.taken l.fn.out;
    }

abbrev pub decreases-loop-taken : goal.decreases-loop-taken
decreases-loop-taken l = length l.self-inside.links.used - l.cursor.passed
