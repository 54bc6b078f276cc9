use Rattle.std.proofs.Common.{◌≡◌, ℕ, ◌-◌, ◌<◌, ◌≤◌, Some, slice_get, false, IsTrue, slice_index_or, vec_len, vec_capacity}
use Rattle.std.specs.Slots.{slots_items, slots_len, slots_filled}
use mathlib.Core.Option.{some}
use lib.ListN.{get_elem?}
use Rattle.lot_words.proofs.closing.take_values.Given as goal

abbrev pub invariant-loop-i : goal.invariant-loop-i
invariant-loop-i g l = record {
  left : (k : ℕ) → l.i ≤ k → k < slots_len l.closed.slots → IsTrue (slice_index_or (slots_filled l.closed.slots) k false);
  taken : (k : ℕ) → k < l.i → slice_index_or (slots_filled l.closed.slots) k false ≡ false;
  items : slots_items l.closed.slots ≡ slots_items l.initial.closed.slots;
  len : slots_len l.closed.slots ≡ slots_len l.initial.closed.slots;
  within : l.i ≤ slots_len l.closed.slots;
  room : vec_len l.room ≡ l.i;
  fits : slots_len l.closed.slots ≤ vec_capacity l.room;
  each : (k : ℕ) (y : g.row.V.Denot) → slice_get l.room.items k ≡ Some y → get_elem? (slots_items l.initial.closed.slots) k ≡ some (Some y);
}

abbrev pub decreases-loop-i : goal.decreases-loop-i
decreases-loop-i g l = slots_len l.closed.slots - l.i
