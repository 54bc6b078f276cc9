use Rattle.lot_sync.specs.Lot.{OwnsNone}
use Rattle.starter.proofs.work.Given as goal

-- between two turns of the loop the thread owns nothing
abbrev pub invariant-loop : goal.invariant-loop
invariant-loop g l = OwnsNone l.pass
