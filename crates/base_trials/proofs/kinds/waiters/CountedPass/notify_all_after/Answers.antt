use Rattle.base_trials.proofs.Waiters.{all_taken}
use Rattle.base_trials.proofs.kinds.waiters.CountedPass.notify_all_after.Goals as goal

pub invariant_of-result : goal.invariant_of-result
invariant_of-result g c =
    let inv = c.self.invariant in
    all_taken g.N.LotName.locks g.N.LotName.conds c.requires.small.0.0 c.requires.small.0.1 _ _ _ _ _ _ _ inv.0
    c.sweep_after-pass.ensures.pass inv.1 (c.count_taken-tallies.ensures 1 _)
