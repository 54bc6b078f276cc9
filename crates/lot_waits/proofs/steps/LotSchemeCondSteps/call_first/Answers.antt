use Rattle.lot_waits.proofs.Roots.{dequeues}
use Rattle.lot_waits.proofs.steps.LotSchemeCondSteps.call_first.Goals as goal

pub returns-clause-root : goal.returns-clause-root
returns-clause-root g c = dequeues c.args.root c.call.result.1 c.args.count c.call.ensures.root c.requires.clear
