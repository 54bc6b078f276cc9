use Rattle.lot_sync.specs.Lot.{OwnsNone}
use Rattle.lot_load.proofs.measure.member.Member.share.Given as goal

abbrev pub invariant-loop : goal.invariant-loop
invariant-loop g l = (goal.iterator-loop g).can_next l.iterator' × (goal.iterator-loop g).is_finite l.iterator' × OwnsNone l.pass
