use Rattle.std.proofs.Common.{◌≡◌, ◌+◌, min, take}
use Rattle.std.specs.Prelude.{sum}
use Rattle.lot_load.specs.Buffers.{most}
use Rattle.lot_load.proofs.measure.times.Times.add.Given as goal

abbrev pub invariant-loop-class : goal.invariant-loop-class
invariant-loop-class l = record {
  all : l.self.all ≡ min (l.initial.self.all + sum (take l.class l.other.counts.items)) most;
  longest : l.self.most ≡ l.initial.self.most;
}
