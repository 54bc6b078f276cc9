use Rattle.std.proofs.Common.{◌≡◌, ◌≤◌, vec_len, vec_capacity}
use Rattle.lot_load.specs.Counters.{AllLegal}
use Rattle.lot_load.proofs.count.new_journals.Given as goal

abbrev pub invariant-loop : goal.invariant-loop
invariant-loop l = record {
  long : vec_len l.journals ≡ l.counter;
  room : l.locks ≤ vec_capacity l.journals;
  legal : AllLegal l.journals.items;
}
