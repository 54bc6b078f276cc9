use Rattle.std.proofs.Common.{refl}
use Rattle.lot_scheme.specs.Standing.{dozing}
use Rattle.lot_locks.proofs.Letters.{parked_awake}
use Rattle.lot_locks.proofs.getting.LotSchemeSoughtLocks.queue.Goals as goal

pub returns-clause-awake : goal.returns-clause-awake
returns-clause-awake g c =
    parked_awake c.args.pass (dozing c.args.pass) c.park.result.0 c.park.result.2 _ _ refl refl refl c.park.ensures.pass

pub returns-clause-refused : goal.returns-clause-refused
returns-clause-refused g c = λ none. rw none at c.park.ensures.pass
