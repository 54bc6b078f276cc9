use Rattle.std.proofs.Common.{◌≡◌, drop}
use Rattle.lot_park.specs.Parking.{debts}
use Rattle.lot_park.proofs.parking.pay_all.Given as goal

abbrev pub invariant-loop-thread : goal.invariant-loop-thread
invariant-loop-thread g l = record {
  key : (g.S.Root.Root.view l.root).key ≡ (g.S.Root.Root.view l.fn.root).key;
  line : (g.S.Root.Root.view l.root).line ≡ (g.S.Root.Root.view l.fn.root).line;
  owes : (g.S.Root.Root.view l.root).owes ≡ debts (drop l.thread-index l.threads);
}
