use Rattle.std.proofs.Common.{inl}
use Rattle.base_trials.proofs.kinds.locks.OnGated.handed_while_it_grows.Goals as goal

pub side_by_side-requires-clause-has : goal.side_by_side-requires-clause-has
side_by_side-requires-clause-has g c κs within = c.take.ensures 0 (inl c.args.three.calm.0)
