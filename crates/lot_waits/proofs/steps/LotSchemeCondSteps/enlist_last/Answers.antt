use Rattle.std.proofs.Common.{ap}
use Rattle.lot_scheme.specs.Standing.{LotStanding}
use Rattle.lot_waits.proofs.Roots.{queues}
use Rattle.lot_waits.proofs.Waited.{lets}
use Rattle.lot_waits.proofs.steps.LotSchemeCondSteps.enlist_last.Goals as goal

pub returns-clause-lets : goal.returns-clause-lets
returns-clause-lets g c =
    lets g.V.Keeps.above g.N.LotName.locks g.N.LotName.first_sem c.args.pass c.enlist.result.0 c.args.root.key c.args.lock
    c.requires.may c.enlist.ensures.pass

pub returns-clause-root : goal.returns-clause-root
returns-clause-root g c =
    queues c.args.root c.enlist.result.1 c.args.pass c.enlist.result.0
    (ap (λ (p : LotStanding _). p.thread) c.enlist.ensures.pass) c.enlist.ensures.root
