use Rattle.std.proofs.Common.{◌≡◌, ◌<◌, ◌≤◌, ℕ, length, get_or, take}
use Rattle.lot_bucket.specs.Contents.{Contents}
use Rattle.lot_bucket.specs.Settled.{IsWhole}
use Rattle.lot_table.specs.Buckets.{queued}
use Rattle.lot_table.specs.Tables.{under}
use Rattle.lot_table.proofs.growth.are_whole.Given as goal

abbrev pub invariant-loop-number : goal.invariant-loop-number
invariant-loop-number g l = record {
  few : l.waiting ≤ l.threads;
  sum : l.waiting ≡ queued (take l.number (under l.guards));
  whole : (i : ℕ) (d : Contents g.row.R.Denot) → i < l.number
      → IsWhole g.R.Root.view (length l.guards) i l.keys (get_or (under l.guards) i d);
}
