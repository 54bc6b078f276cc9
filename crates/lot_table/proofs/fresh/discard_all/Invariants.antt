use Rattle.std.proofs.Common.{◌<◌, ℕ, length, get_or, vec_len}
use Rattle.lot_bucket.specs.Contents.{Contents}
use Rattle.lot_bucket.specs.Agrees.{IsSpent}
use Rattle.lot_table.proofs.fresh.discard_all.Given as goal

abbrev pub invariant-loop-bucket : goal.invariant-loop-bucket
invariant-loop-bucket g l = (i : ℕ) (d : Contents g.row.R.Denot) → i < length l.buckets.items → IsSpent (get_or l.buckets.items i d)

abbrev pub decreases-loop-bucket : goal.decreases-loop-bucket
decreases-loop-bucket g l = vec_len l.buckets
