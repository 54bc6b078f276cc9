use Rattle.std.proofs.Common.{◌≡◌, length}
use Rattle.lot_park.specs.Lots.{AreIdle}
use Rattle.base_trials.specs.declared.park.rights.Right.{Right}
use Rattle.base_trials.proofs.park.rights.idle_rights.Given as goal

abbrev pub invariant-loop-key : goal.invariant-loop-key
invariant-loop-key l = record {
  count : length l.rights.items ≡ l.key;
  idle : AreIdle (λ (r : Right). record { key = r.key; line = r.line.items; owes = r.owes.items }) l.rights.items;
}
