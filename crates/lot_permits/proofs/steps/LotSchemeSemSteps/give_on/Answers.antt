use Rattle.std.proofs.Common.{sym, subst}
use Rattle.lot_whole.specs.Standing.{IsIdle}
use Rattle.lot_scheme.specs.Standing.{LotStanding}
use Rattle.lot_scheme.specs.Roots.{root_view}
use Rattle.lot_permits.proofs.Rest.{idle_giving}
use Rattle.lot_permits.proofs.steps.LotSchemeSemSteps.give_on.Goals as goal

pub clear-pass-requires-clause-idle : goal.clear-pass-requires-clause-idle
clear-pass-requires-clause-idle g c =
    subst (λ (p : LotStanding g.row.V.Denot). IsIdle p.own) (sym c.pass_permit-pass.ensures.pass)
    (idle_giving c.args.pass (root_view c.args.root).key c.requires.may.1.0)
