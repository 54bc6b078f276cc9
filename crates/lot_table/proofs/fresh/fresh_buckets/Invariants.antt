use Rattle.std.proofs.Common.{◌≡◌, ◌≤◌, ℕ, ◌<◌, get_or, vec_len, vec_capacity, length}
use Rattle.lot_bucket.specs.Contents.{Contents}
use Rattle.lot_table.specs.Buckets.{IsFresh}
use Rattle.lot_table.proofs.fresh.fresh_buckets.Given as goal

abbrev pub invariant-loop-number : goal.invariant-loop-number
invariant-loop-number g l = record {
  count : vec_len l.buckets ≡ l.number;
  room : l.most ≤ vec_capacity l.buckets;
  fresh : (i : ℕ) (d : Contents g.row.R.Denot) → i < length l.buckets.items
      → IsFresh l.size i l.keys l.threads (get_or l.buckets.items i d);
}
