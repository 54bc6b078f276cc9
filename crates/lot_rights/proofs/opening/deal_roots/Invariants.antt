use Rattle.std.proofs.Common.{◌≡◌, ℕ, ◌+◌, ◌-◌, ◌<◌, ◌≤◌, [], Some, slice_get, vec_len, vec_capacity}
use Rattle.lot_rights.specs.Start.{roots_from, root_at}
use Rattle.lot_rights.proofs.opening.deal_roots.Given as goal

abbrev pub invariant-loop-i : goal.invariant-loop-i
invariant-loop-i g l = let k = g.K.Kind.meaning l.shared.key in record {
  table : l.seat.table_id ≡ l.shared.table_id;
  rest : l.seat.me ≡ (roots_from k (l.first + l.i) (l.keys - l.i), []);
  len : vec_len l.roots ≡ l.i;
  room : l.keys ≤ vec_capacity l.roots;
  each : (j : ℕ) → j < l.i → slice_get l.roots.items j ≡ Some (root_at k l.shared.table_id (l.first + j));
}
