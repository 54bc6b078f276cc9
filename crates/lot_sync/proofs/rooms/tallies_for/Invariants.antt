use Rattle.std.proofs.Common.{◌≡◌, ◌≤◌, vec_len, vec_capacity}
use Rattle.std.specs.List.{All}
use Rattle.lot_waits.specs.Ledger.{AreZeros}
use Rattle.lot_sync.proofs.rooms.tallies_for.Given as goal

abbrev pub invariant-loop : goal.invariant-loop
invariant-loop l = record {
  long : vec_len l.tallies ≡ l.counter;
  room : l.fn.threads ≤ vec_capacity l.tallies;
  zeros : All (λ t. AreZeros l.fn.conds t.value) l.tallies.items;
}
