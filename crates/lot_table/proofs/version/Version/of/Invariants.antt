use Rattle.std.proofs.Common.{◌≡◌, ◌+◌, ◌-◌, ◌<◌, ◌≤◌, ℕ, length, get_or, vec_len, vec_capacity}
use Rattle.lot_bucket.specs.Contents.{Contents}
use Rattle.lot_table.specs.Buckets.{IsFilled}
use Rattle.lot_table.specs.Tables.{Spot}
use Rattle.lot_table.proofs.version.Version.of.Given as goal

abbrev pub invariant-loop-bucket : goal.invariant-loop-bucket
invariant-loop-bucket g l = record {
  count : vec_len l.locks + vec_len l.filled ≡ l.size;
  room : l.size ≤ vec_capacity l.locks;
  kept : vec_capacity l.filled ≡ vec_capacity l.fn.buckets;
  numbered : (i : ℕ) (d : Spot) → i < length l.locks.items → get_or l.locks.items i d ≡ record { number = l.size - 1 - i; size = l.size };
  filled : (i : ℕ) (d : Contents g.row.R.Denot) → i < length l.filled.items
      → IsFilled g.R.Root.view l.size i l.keys (get_or l.filled.items i d);
}

abbrev pub decreases-loop-bucket : goal.decreases-loop-bucket
decreases-loop-bucket g l = vec_len l.filled
