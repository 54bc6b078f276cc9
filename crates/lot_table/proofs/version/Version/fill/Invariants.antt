use Rattle.std.proofs.Common.{◌<◌, ◌≤◌, ℕ, length, get_or, vec_len}
use Rattle.lot_bucket.specs.Contents.{Contents}
use Rattle.lot_table.specs.Buckets.{IsFilled}
use Rattle.lot_table.proofs.version.Version.fill.Given as goal

abbrev pub invariant-loop-bucket : goal.invariant-loop-bucket
invariant-loop-bucket g l = record {
  count : vec_len l.fresh ≤ l.size;
  filled : (i : ℕ) (d : Contents g.row.R.Denot) → i < length l.fresh.items
      → IsFilled g.R.Root.view l.size i l.keys (get_or l.fresh.items i d);
}

abbrev pub decreases-loop-bucket : goal.decreases-loop-bucket
decreases-loop-bucket g l = vec_len l.fresh
