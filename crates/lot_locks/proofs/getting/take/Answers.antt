use Rattle.std.proofs.Common.{refl}
use Rattle.lot_locks.proofs.Letters.{took_awake}
use Rattle.lot_locks.proofs.getting.take.Goals as goal

pub returns-clause-awake : goal.returns-clause-awake
returns-clause-awake g c = took_awake g.V.Keeps c.args.pass c.take.result.0 c.take.result.1 c.args.key _ _ refl refl c.take.ensures
