use Rattle.std.proofs.Common.{◌≡◌, ◌≤◌, vec_len, vec_capacity}
use Rattle.lot_table.proofs.growth.lock_all.Given as goal

abbrev pub invariant-loop-number : goal.invariant-loop-number
invariant-loop-number g l = record { count : vec_len l.guards ≡ l.number; room : l.version.size ≤ vec_capacity l.guards }
