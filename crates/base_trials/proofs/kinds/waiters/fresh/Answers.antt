use Rattle.std.proofs.Common.{ap}
use Rattle.lot_waits.specs.Counts.{CountsView}
use Rattle.lot_waits.proofs.Counts.{kept_of_none}
use Rattle.base_trials.proofs.kinds.waiters.fresh.Goals as goal

pub invariant_of-result : goal.invariant_of-result
invariant_of-result g c = (
  c.requires.fresh.0,
  kept_of_none g.N.LotName.locks g.N.LotName.conds _ _ _ (ap (λ (q : CountsView). q.called) c.requires.fresh.1)
      (ap (λ (q : CountsView). q.woken) c.requires.fresh.1)
      c.requires.none.0 c.requires.none.1,
)
