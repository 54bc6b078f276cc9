use Rattle.std.proofs.Common.{refl}
use Rattle.lot_locks.proofs.Letters.{free_awake}
use Rattle.lot_locks.proofs.getting.get_free.Goals as goal

pub returns-clause-awake : goal.returns-clause-awake
returns-clause-awake g c =
    free_awake g.V.Keeps c.args.pass c.take_free.result.0 c.args.key c.take_free.result.1 _ refl c.take_free.ensures.got
    c.take_free.ensures.missed
