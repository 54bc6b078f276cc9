use Rattle.base_trials.proofs.Calm.{may_take, taken_or_wanted}
use Rattle.base_trials.proofs.kinds.locks.OnGated.take.Goals as goal

pub take-pass-requires-clause-may : goal.take-pass-requires-clause-may
take-pass-requires-clause-may g c = may_take c.requires.pass.0 0 c.args.pass c.requires.pass.1

pub returns : goal.returns
returns g c = λ t before. taken_or_wanted _ t 0 c.args.wanted _ _ c.args.pass c.take-pass.result.0 before
    (rw c.answer_is.ensures at c.take-pass.ensures)
