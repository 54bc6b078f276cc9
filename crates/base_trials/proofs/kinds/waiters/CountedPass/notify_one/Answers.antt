use Rattle.base_trials.proofs.Waiters.{one_taken, none_taken}
use Rattle.base_trials.proofs.kinds.waiters.CountedPass.notify_one.Goals as goal

pub invariant_of-result : goal.invariant_of-result
invariant_of-result g c =
    let inv = c.self.invariant in
    one_taken g.N.LotName.locks g.N.LotName.conds c.requires.small.0.0 c.requires.small.0.1 _ _ _ _ _ _ _ c.if-took.true inv.0
    c.notify_one-pass.ensures.pass inv.1 (c.count_taken-tallies.ensures 1 _)

pub invariant_of-result-else-took : goal.invariant_of-result-else-took
invariant_of-result-else-took g c =
    let inv = c.self.invariant in
    none_taken g.N.LotName.locks g.N.LotName.conds c.requires.small.0.0 c.requires.small.0.1 _ _ _ _ _ c.if-took.false inv.0
    c.notify_one-pass.ensures.pass inv.1
