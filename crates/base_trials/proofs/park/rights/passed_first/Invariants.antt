use Rattle.std.proofs.Common.{◌≡◌, drop, take}
use Rattle.lot_park.specs.Parking.{debts}
use Rattle.base_trials.proofs.park.rights.passed_first.Given as goal

-- left are still to be taken
abbrev pub invariant-loop : goal.invariant-loop
invariant-loop g l = record {
  key : l.right.key ≡ l.fn.right.key;
  line : l.right.line.items ≡ drop l.counter l.fn.right.line.items;
  owes : l.right.owes.items ≡ debts (take l.counter l.fn.right.line.items);
}
