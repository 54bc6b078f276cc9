use Rattle.lot_sync.specs.Lot.{OwnsNone}
use Rattle.lot_load.proofs.spread.work.Given as goal

abbrev pub invariant-loop-round : goal.invariant-loop-round
invariant-loop-round g l = OwnsNone l.pass
