use Rattle.std.proofs.Common.{◌≡◌, ◌+◌, ◌<◌, ◌≤◌, ℕ, length, get_or, vec_len, vec_capacity}
use Rattle.lot_bucket.specs.Contents.{Contents}
use Rattle.lot_bucket.specs.Settled.{IsWhole}
use Rattle.lot_table.proofs.version.Version.into_buckets.Given as goal

abbrev pub invariant-loop-lock : goal.invariant-loop-lock
invariant-loop-lock g l = record {
  count : vec_len l.row + vec_len l.locks ≡ l.size;
  room : l.size ≤ vec_capacity l.row;
  whole : (i : ℕ) (d : Contents g.row.R.Denot) → i < length l.row.items → IsWhole g.R.Root.view l.size i l.keys (get_or l.row.items i d);
}

abbrev pub decreases-loop-lock : goal.decreases-loop-lock
decreases-loop-lock g l = vec_len l.locks
