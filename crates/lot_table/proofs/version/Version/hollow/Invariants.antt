use Rattle.std.proofs.Common.{◌≡◌, ◌<◌, ◌≤◌, ℕ, length, get_or, vec_len, vec_capacity}
use Rattle.lot_table.specs.Tables.{Spot}
use Rattle.lot_table.proofs.version.Version.hollow.Given as goal

abbrev pub invariant-loop-number : goal.invariant-loop-number
invariant-loop-number g l = record {
  count : vec_len l.slots ≡ l.number;
  room : l.size ≤ vec_capacity l.slots;
  numbered : (i : ℕ) (d : Spot) → i < length l.slots.items → get_or l.slots.items i d ≡ record { number = i; size = l.size };
}
