use Rattle.std.proofs.Common.{◌≡◌, ◌≤◌, vec_len, vec_capacity}
use Rattle.lot_sync.specs.Closing.{AreCountedWith}
use Rattle.lot_sync.proofs.closing.copy_counts.Given as goal

abbrev pub invariant-loop-place : goal.invariant-loop-place
invariant-loop-place g l = record {
  long : vec_len l.counts ≡ l.place;
  room : vec_len l.fn.named ≤ vec_capacity l.counts;
  counted : AreCountedWith g.C.Tally.counts l.fn.named.items l.counts.items;
}
