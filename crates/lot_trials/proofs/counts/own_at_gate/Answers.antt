use Rattle.lot_sync.proofs.Holdings.{got_holds}
use Rattle.lot_trials.proofs.counts.own_at_gate.Goals as goal

pub returns-clause-holding : goal.returns-clause-holding
returns-clause-holding g c =
    got_holds _ c.args.pass c.lock_after-pass.result.0 c.args.key c.lock_after-pass.result.1 c.requires.free c.lock_after-pass.ensures.gets
