use Rattle.lot_sync.proofs.Holdings.{tried_holds}
use Rattle.lot_trials.proofs.counts.try_own.Goals as goal

pub returns : goal.returns
returns g c = tried_holds _ c.args.pass c.try_lock.result.0 c.args.key c.try_lock.result.1 c.requires.free c.try_lock.ensures.gets
