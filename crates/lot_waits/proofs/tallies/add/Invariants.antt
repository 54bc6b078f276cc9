use Rattle.std.proofs.Common.{◌≡◌, ℕ, ◌+◌, ◌<◌, ◌≤◌, slice_index, length}
use Rattle.lot_waits.specs.Counts.{wrap}
use Rattle.lot_waits.proofs.tallies.add.Given as goal

abbrev pub invariant-loop-place : goal.invariant-loop-place
invariant-loop-place l = record {
  long : length l.numbers.items ≡ length l.initial.numbers.items;
  done : (i : ℕ) → i < l.place
      → slice_index l.numbers.items i ≡ wrap (slice_index l.initial.numbers.items i + slice_index l.others.items i);
  left : (i : ℕ) → l.place ≤ i → slice_index l.numbers.items i ≡ slice_index l.initial.numbers.items i;
}
