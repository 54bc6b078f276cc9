use Rattle.std.proofs.Common.{[]}
use Rattle.lot_waits.proofs.Sums.{tallied_none}
use Rattle.base_trials.proofs.kinds.waiters.settle.Goals as goal

pub added-zero-requires : goal.added-zero-requires
added-zero-requires g c = ([], tallied_none g.N.LotName.locks g.N.LotName.conds _ c.requires.zeros)

pub added-one-requires : goal.added-one-requires
added-one-requires g c = (_, c.added-zero.ensures.sums [] (tallied_none g.N.LotName.locks g.N.LotName.conds _ c.requires.zeros))

pub added-two-requires : goal.added-two-requires
added-two-requires g c = (
  _,
  c.added-one.ensures.sums _ (c.added-zero.ensures.sums []
      (tallied_none g.N.LotName.locks g.N.LotName.conds _ c.requires.zeros)),
)
