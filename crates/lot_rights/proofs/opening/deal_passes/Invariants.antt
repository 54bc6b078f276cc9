use Rattle.std.proofs.Common.{◌≡◌, ℕ, ◌-◌, ◌<◌, ◌≤◌, ◌++◌, [], Some, slice_get, vec_len, vec_capacity}
use Rattle.lot_rights.specs.Start.{passes_from, roots_from, pass_at}
use Rattle.lot_rights.proofs.opening.deal_passes.Given as goal

abbrev pub invariant-loop-thread : goal.invariant-loop-thread
invariant-loop-thread g l = let k = g.K.Kind.meaning l.shared.key in record {
  table : l.seat.table_id ≡ l.shared.table_id;
  rest : l.seat.me ≡ (passes_from k l.thread (l.threads - l.thread) ++ roots_from k k.first_key k.keys, []);
  len : vec_len l.passes ≡ l.thread;
  room : l.threads ≤ vec_capacity l.passes;
  each : (i : ℕ) → i < l.thread → slice_get l.passes.items i ≡ Some (pass_at k l.shared.table_id i);
}
