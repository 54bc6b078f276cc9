use Rattle.base_trials.proofs.Owners.{handed}
use Rattle.base_trials.proofs.rights.owners.collect_any.Goals as goal

pub returns-clause-owner : goal.returns-clause-owner
returns-clause-owner g c l =
    handed g.V.Keeps c.who_gets_a_lock_owns_it.ensures c.args.pass c.collect.result.0 l
    c.collect.result.1 c.collect.ensures.letter
