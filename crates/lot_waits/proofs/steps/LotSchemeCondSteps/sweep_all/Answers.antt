use Rattle.lot_waits.proofs.Roots.{dequeues_all}
use Rattle.lot_waits.proofs.steps.LotSchemeCondSteps.sweep_all.Goals as goal

pub returns-clause-root : goal.returns-clause-root
returns-clause-root g c = dequeues_all c.args.root c.sweep.result.1 c.sweep.ensures.root c.requires.clear
