use Rattle.base_trials.proofs.Owners.{taken}
use Rattle.base_trials.proofs.rights.owners.take_any.Goals as goal

pub returns-clause-owner : goal.returns-clause-owner
returns-clause-owner g c =
    taken g.V.Keeps c.who_gets_a_lock_owns_it.ensures c.args.pass c.take.result.0 c.args.key
    c.take.result.1 _ _ c.take.ensures.event
