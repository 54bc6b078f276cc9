use Rattle.std.proofs.Common.{◌≡◌, ◌⊎◌, ◌+◌, ◌*◌, ◌^◌, ◌<◌, ◌≤◌}
use Rattle.lot_load.proofs.measure.times.class_of.Given as goal

abbrev pub invariant-loop-rest : goal.invariant-loop-rest
invariant-loop-rest l = record {
  least : l.bits * 2 ^ l.rest ≤ l.nanos;
  below : l.nanos < (l.bits + 1) * 2 ^ l.rest;
  highest : (l.rest ≡ 0) ⊎ (16 ≤ l.bits);
}
