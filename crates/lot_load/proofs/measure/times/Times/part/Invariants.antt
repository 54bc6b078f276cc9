use Rattle.std.proofs.Common.{◌≡◌, ◌<◌, take}
use Rattle.std.specs.Prelude.{sum}
use Rattle.lot_load.proofs.measure.times.Times.part.Given as goal

abbrev pub invariant-loop-class : goal.invariant-loop-class
invariant-loop-class l = record {
  seen : l.seen ≡ sum (take l.class l.self.counts.items);
  few : l.seen < l.wanted;
}
