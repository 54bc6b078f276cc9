use Rattle.std.proofs.Common.{subst, sym, MatchBool}
use Rattle.lot_locks.specs.Standing.{IsOwner, IsTryingFor}
use Rattle.lot_locks.proofs.Waking.{woken_ends}
use Rattle.lot_locks.proofs.getting.LotSchemeSoughtLocks.is_handed.Goals as goal

pub returns : goal.returns
returns g c = λ before asleep now key sleeps found.
    subst (λ b. MatchBool b (IsOwner g.V.Keeps before key now) (IsTryingFor g.V.Keeps.above g.N.LotName.locks before key now))
    (sym c.eq.ensures)
    (woken_ends g.V.Keeps g.N.LotName.locks before asleep now key c.args.token.0 sleeps found)
