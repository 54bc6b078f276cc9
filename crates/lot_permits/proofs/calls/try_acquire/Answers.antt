use Rattle.std.proofs.Common.{sym, subst}
use Rattle.lot_whole.specs.Standing.{IsIdle}
use Rattle.lot_scheme.specs.Standing.{LotStanding}
use Rattle.lot_scheme.specs.SemCalls.{TriesPermit}
use Rattle.lot_sems.specs.declared.taking.Taken.{Taken}
use Rattle.lot_permits.proofs.Rest.{idle_getting}
use Rattle.lot_permits.proofs.calls.try_acquire.Goals as goal

pub returns-in-Got-clause-idle : goal.returns-in-Got-clause-idle
returns-in-Got-clause-idle g c =
    let tried = subst (λ (b : Taken). TriesPermit c.args.pass c.args.key b c.try_take_permit-pass.result.0) c.in-Got.is
    c.try_take_permit-pass.ensures in
    subst (λ (p : LotStanding g.row.V.Denot). IsIdle p.own) (sym tried.2) (idle_getting c.args.pass c.args.key c.requires.idle)
