use Rattle.std.proofs.Common.{◌≡◌, ◌≤◌, ℕ, length, get_or, take, vec_capacity}
use Rattle.lot_bucket.specs.Contents.{Contents}
use Rattle.lot_table.specs.Tables.{under}
use Rattle.lot_table.proofs.growth.take_out.Given as goal

abbrev pub invariant-loop-number : goal.invariant-loop-number
invariant-loop-number g l = record {
  out : l.old.items ≡ take l.number (under l.fn.guards);
  rest : (i : ℕ) (d : Contents g.row.R.Denot) → l.number ≤ i → get_or (under l.guards) i d ≡ get_or (under l.fn.guards) i d;
  room : length l.fn.guards ≤ vec_capacity l.old;
}
