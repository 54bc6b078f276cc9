use Rattle.std.proofs.Common.{inl}
use Rattle.base_trials.proofs.Calm.{owner_has_it, owner_idle, may_free, waited_has_it}
use Rattle.base_trials.proofs.Waiters.{waited_again}
use Rattle.base_trials.proofs.kinds.waiters.CountedPass.wait.Goals as goal

pub wait-again-requires-clause-idle : goal.wait-again-requires-clause-idle
wait-again-requires-clause-idle g c κs within =
    owner_idle _ c.args.lock _ (owner_has_it _ _ c.args.lock _ _ (inl c.self.invariant.0) c.get-owner.ensures.owner)

pub wait-again-requires-clause-lies : goal.wait-again-requires-clause-lies
wait-again-requires-clause-lies g c κs within = (owner_has_it _ _ c.args.lock _ _ (inl c.self.invariant.0) c.get-owner.ensures.owner).lies

pub let_go-pass-requires-clause-may : goal.let_go-pass-requires-clause-may
let_go-pass-requires-clause-may g c κs within =
    may_free _ c.args.lock _ (waited_has_it _ _ 2 c.args.lock _ _ _
    (owner_has_it _ _ c.args.lock _ _ (inl c.self.invariant.0) c.get-owner.ensures.owner) c.wait-again.ensures.waited)

pub invariant_of-result : goal.invariant_of-result
invariant_of-result g c =
    let inv = c.self.invariant in
    waited_again g.N.LotName.locks g.N.LotName.conds c.requires.small.0.0 c.requires.small.0.1 _ c.args.lock _ _ _ _ _ _ _ _ _ _ inv.0
    c.get-owner.ensures.owner c.wait-again.ensures.waited
    c.let_go-pass.ensures.went inv.1 (c.count_wait-tallies.ensures 1 _)
