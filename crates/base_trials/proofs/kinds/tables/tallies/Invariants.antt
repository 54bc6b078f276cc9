use Rattle.std.proofs.Common.{◌≡◌, vec_len}
use Rattle.std.specs.List.{All}
use Rattle.base_trials.specs.declared.rights.tally.Tally.{Tally}
use Rattle.base_trials.proofs.kinds.tables.tallies.Given as goal

abbrev pub invariant-loop : goal.invariant-loop
invariant-loop l = record {
  len : vec_len l.values ≡ l.counter;
  zero : All (λ (x : Tally). x.total ≡ 0) l.values.items;
}
