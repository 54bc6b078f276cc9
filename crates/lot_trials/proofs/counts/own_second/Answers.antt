use Rattle.lot_sync.proofs.Holdings.{got_both}
use Rattle.lot_trials.proofs.counts.own_second.Goals as goal

pub returns-clause-both : goal.returns-clause-both
returns-clause-both g c =
    got_both _ c.args.pass c.lock-pass.result.0 c.args.first c.lock-pass.result.1 c.args.key c.requires.key.1 c.requires.holding
    c.lock-pass.ensures.gets
