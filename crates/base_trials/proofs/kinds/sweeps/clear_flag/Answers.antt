use Rattle.std.proofs.Common.{arith}
use Rattle.base_trials.proofs.Calm.{calm_idle, notified_calm}
use Rattle.base_trials.proofs.kinds.sweeps.clear_flag.Goals as goal

pub notify_one-pass-requires-clause-cond : goal.notify_one-pass-requires-clause-cond
notify_one-pass-requires-clause-cond g c κs within =
    let two = c.requires.small.0.0 in
    let three = c.requires.small.0.2 in
    let keys = c.requires.small.2 in
    (omega (arith, two), omega (arith, three), omega (arith, keys))

pub notify_one-pass-requires-clause-idle : goal.notify_one-pass-requires-clause-idle
notify_one-pass-requires-clause-idle g c κs within = calm_idle 1 c.args.pass c.requires.calm

pub returns : goal.returns
returns g c = notified_calm 1 2 1 _ c.args.pass c.notify_one-pass.result.0 c.requires.calm c.notify_one-pass.ensures.pass
