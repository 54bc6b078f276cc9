use Rattle.base_trials.proofs.LockSchedules.{took}
use Rattle.base_trials.proofs.rights.locks.TwoLocks.take.Goals as goal

pub returns-clause-answer : goal.returns-clause-answer
returns-clause-answer g c =
    let answer = took c.args.pass c.args.self.now.words.now.table c.args.pass.thread c.args.key c.requires.pass c.requires.key _ _ _
    c.take_any-pass.result.0 c.take_any-pass.result.1 c.requires.may.0 c.take_any-pass.ensures.event.2 in
    rw c.answer_is.ensures at answer
