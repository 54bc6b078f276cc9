use Rattle.base_trials.proofs.Calm.{may_free, went}
use Rattle.base_trials.proofs.kinds.locks.OnGated.release.Goals as goal

pub let_go-pass-requires-clause-may : goal.let_go-pass-requires-clause-may
let_go-pass-requires-clause-may g c κs within = may_free c.requires.pass.0 0 c.args.pass c.requires.pass.1

pub returns : goal.returns
returns g c = λ t has. went t 0 _ c.args.pass c.let_go-pass.result.0 has c.let_go-pass.ensures.went
