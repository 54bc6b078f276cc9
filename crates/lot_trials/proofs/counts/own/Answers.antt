use Rattle.lot_sync.proofs.Holdings.{got_holds}
use Rattle.lot_trials.proofs.counts.own.Goals as goal

pub returns-clause-holding : goal.returns-clause-holding
returns-clause-holding g c = got_holds _ c.args.pass c.lock.result.0 c.args.key c.lock.result.1 c.requires.free c.lock.ensures.gets
