use Rattle.std.proofs.Common.{◌<◌, ℕ, length, get_or, vec_len}
use Rattle.lot_bucket.specs.Contents.{Contents}
use Rattle.lot_bucket.specs.Agrees.{AgreesClosed}
use Rattle.lot_table.proofs.closing.spend_empty.Given as goal

abbrev pub invariant-loop-bucket : goal.invariant-loop-bucket
invariant-loop-bucket g l = (i : ℕ) (d : Contents g.row.R.Denot) → i < length l.buckets.items
    → AgreesClosed g.R.Root.view (get_or l.buckets.items i d)

abbrev pub decreases-loop-bucket : goal.decreases-loop-bucket
decreases-loop-bucket g l = vec_len l.buckets
