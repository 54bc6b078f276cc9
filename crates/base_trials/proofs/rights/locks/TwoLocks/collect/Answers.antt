use Rattle.base_trials.proofs.LockSchedules.{was_handed}
use Rattle.base_trials.proofs.rights.locks.TwoLocks.collect.Goals as goal

pub returns-clause-handed : goal.returns-clause-handed
returns-clause-handed g c one =
    was_handed c.args.pass c.args.self.now.words.now.table c.args.pass.thread c.args.key c.requires.pass.0 c.requires.key _
    c.collect_any.result.0
    c.collect_any.result.1 c.requires.pass.1.1 one c.collect_any.ensures.letter
