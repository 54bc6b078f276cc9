use Rattle.std.proofs.Common.{◌≡◌, ◌≤◌, replicate, vec_len, vec_capacity, None}
use Rattle.lot_places.proofs.places.Places.empty.Given as goal

abbrev pub invariant-loop-place : goal.invariant-loop-place
invariant-loop-place g l = record {
  made : l.slots.items ≡ replicate l._place None;
  count : vec_len l.slots ≡ l._place;
  room : l.count ≤ vec_capacity l.slots;
}
