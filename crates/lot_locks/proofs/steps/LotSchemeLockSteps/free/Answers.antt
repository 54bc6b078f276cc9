use Rattle.lot_locks.proofs.Freed.{freed_or_parked}
use Rattle.lot_locks.proofs.steps.LotSchemeLockSteps.free.Goals as goal

pub returns-clause-step : goal.returns-clause-step
returns-clause-step g c =
    freed_or_parked g.N.LotName.locks c.free_unparked.result.1 c.args.pass c.free_unparked.result.0 c.args.key
    c.requires.has c.requires.may c.free_unparked.ensures
