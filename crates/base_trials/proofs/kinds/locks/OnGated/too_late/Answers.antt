use Rattle.std.proofs.Common.{inl, inr, arith}
use Rattle.base_trials.proofs.kinds.locks.OnGated.too_late.Goals as goal

pub mark-one-requires-clause-pass : goal.mark-one-requires-clause-pass
mark-one-requires-clause-pass g c κs within = (1, c.take-one.ensures 1 (inl c.args.three.calm.1))

pub release-zero-requires-clause-pass : goal.release-zero-requires-clause-pass
release-zero-requires-clause-pass g c κs within = (0, c.take-zero.ensures 0 (inl c.args.three.calm.0))

pub park_in_vain-one-requires-clause-thread : goal.park_in_vain-one-requires-clause-thread
park_in_vain-one-requires-clause-thread g c κs within =
    let thread = (c.mark-one.ensures 1 (c.take-one.ensures 1 (inl c.args.three.calm.1))).there.thread in
    omega (arith, thread)

pub park_in_vain-one-requires-clause-pass : goal.park_in_vain-one-requires-clause-pass
park_in_vain-one-requires-clause-pass g c κs within = (1, c.mark-one.ensures 1 (c.take-one.ensures 1 (inl c.args.three.calm.1)))

pub take-one-requires-2-clause-pass : goal.take-one-requires-2-clause-pass
take-one-requires-2-clause-pass g c κs within = (
  1,
  inr (c.park_in_vain-one.ensures 1
      (c.mark-one.ensures 1 (c.take-one.ensures 1 (inl c.args.three.calm.1)))),
)

pub release-two-requires-clause-pass : goal.release-two-requires-clause-pass
release-two-requires-clause-pass g c κs within = (2, c.take-two.ensures 2 (inl c.args.three.calm.2))

pub take-one-requires-3-clause-pass : goal.take-one-requires-3-clause-pass
take-one-requires-3-clause-pass g c κs within =
    let parked = c.park_in_vain-one.ensures 1 (c.mark-one.ensures 1 (c.take-one.ensures 1 (inl c.args.three.calm.1))) in
    (1, inr (c.take-one-2.ensures 1 (inr parked)))

pub release-one-requires-clause-pass : goal.release-one-requires-clause-pass
release-one-requires-clause-pass g c κs within =
    let parked = c.park_in_vain-one.ensures 1 (c.mark-one.ensures 1 (c.take-one.ensures 1 (inl c.args.three.calm.1))) in
    (1, c.take-one-3.ensures 1 (inr (c.take-one-2.ensures 1 (inr parked))))

pub invariant_of-result : goal.invariant_of-result
invariant_of-result g c =
    let parked = c.park_in_vain-one.ensures 1 (c.mark-one.ensures 1 (c.take-one.ensures 1 (inl c.args.three.calm.1))) in
    record {
      calm = (
        c.release-zero.ensures 0 (c.take-zero.ensures 0 (inl c.args.three.calm.0)),
        c.release-one.ensures 1 (c.take-one-3.ensures 1 (inr (c.take-one-2.ensures 1 (inr parked)))),
        c.release-two.ensures 2 (c.take-two.ensures 2 (inl c.args.three.calm.2)),
      );
    }
