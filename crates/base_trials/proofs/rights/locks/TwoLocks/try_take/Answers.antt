use Rattle.base_trials.proofs.LockSchedules.{tried}
use Rattle.base_trials.proofs.rights.locks.TwoLocks.try_take.Goals as goal

pub returns-clause-answer : goal.returns-clause-answer
returns-clause-answer g c =
    let answer = tried c.args.pass c.args.self.now.words.now.table c.args.pass.thread c.args.key c.requires.pass.0 c.requires.key _ _ _
    c.try_take-pass.result.0 c.try_take-pass.result.1 c.requires.pass.1.0 c.requires.pass.1.1 c.try_take-pass.ensures.event in
    rw c.answer_is.ensures at answer
