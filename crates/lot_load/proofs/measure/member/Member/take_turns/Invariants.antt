use Rattle.lot_sync.specs.Lot.{OwnsNone}
use Rattle.lot_load.proofs.measure.member.Member.take_turns.Given as goal

abbrev pub invariant-loop : goal.invariant-loop
invariant-loop g l = OwnsNone l.pass
