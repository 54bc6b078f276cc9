use Rattle.std.proofs.Common.{inr, sym, subst}
use Rattle.lot_sems.specs.declared.taking.Taken.{Taken}
use Rattle.lot_scheme.specs.Standing.{LotStanding}
use Rattle.lot_scheme.specs.SemCalls.{TakesPermit}
use Rattle.lot_permits.specs.Seeking.{GetsPermit}
use Rattle.lot_permits.proofs.Seeking.{goes_again, got_slowly, missed, tried}
use Rattle.lot_permits.proofs.Rest.{idle_got}
use Rattle.lot_permits.proofs.calls.acquire.Goals as goal
use Rattle.lot_permits.proofs.calls.acquire.Goals.{in-Got, in-Empty}

pub get_slowly-pass-requires-clause-waits : goal.get_slowly-pass-requires-clause-waits
get_slowly-pass-requires-clause-waits g c κs within =
    goes_again g.V.Keeps.above g.N.LotName.first_sem c.args.pass c.take_permit-pass.result.0 c.args.key
    (missed g.V.Keeps.above g.N.LotName.first_sem c.args.pass c.take_permit-pass.result.0 c.args.key c.take_permit-pass.result.1
    c.requires.sem.0
    (inr c.requires.idle, λ _. c.requires.above) c.take_permit-pass.ensures c.in-Empty.is)

pub returns-clause-gets : goal.returns-clause-gets
returns-clause-gets g c =
    let p = c.args.pass in
    let q = c.take_permit-pass.result.0 in
    let key = c.args.key in
    let above = g.V.Keeps.above in
    let first_sem = g.N.LotName.first_sem in
    elim c.match-taken.branch [
      | in-Got w ↦ subst (λ (r : LotStanding g.row.V.Denot). GetsPermit p key r) (sym w.pass-is)
          (tried above first_sem p q key c.requires.sem.0 (inr c.requires.idle, λ _. c.requires.above)
          (subst (λ (b : Taken). TakesPermit p key b q) w.in-Got.is c.take_permit-pass.ensures))
      | in-Empty w ↦ subst (λ (r : LotStanding g.row.V.Denot). GetsPermit p key r) (sym w.pass-is)
          (got_slowly above first_sem p q w.get_slowly-pass.result key
          (missed above first_sem p q key c.take_permit-pass.result.1 c.requires.sem.0
          (inr c.requires.idle, λ _. c.requires.above) c.take_permit-pass.ensures w.in-Empty.is)
          w.get_slowly-pass.ensures)
    ]

pub returns-clause-idle : goal.returns-clause-idle
returns-clause-idle g c = idle_got c.args.pass c.match-taken.pass c.args.key c.requires.idle (returns-clause-gets g c)
