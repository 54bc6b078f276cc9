use Rattle.base_trials.proofs.Calm.{may_line_up, wants_on}
use Rattle.base_trials.proofs.kinds.locks.OnGated.mark.Goals as goal

pub mark-pass-requires-clause-may : goal.mark-pass-requires-clause-may
mark-pass-requires-clause-may g c = may_line_up c.requires.pass.0 0 c.args.pass c.requires.pass.1

pub returns : goal.returns
returns g c = λ t before. wants_on t 0 c.args.pass c.mark-pass.result.0 _ before (rw c.is_so.ensures at c.mark-pass.ensures)
