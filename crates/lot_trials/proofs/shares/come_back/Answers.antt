use Rattle.std.proofs.Common.{◌<◌, sym, subst, ◌∙◌, ap}
use Rattle.lot_trials.specs.Shares.{own_share}
use Rattle.lot_sync.proofs.Rests.{reads}
use Rattle.lot_trials.proofs.shares.come_back.Goals as goal

pub returns-clause-there : goal.returns-clause-there
returns-clause-there g c =
    let was = reads c.leave_own-first.result.0.seen 0 (subst (λ n. 0 < n) (sym c.leave_own-first.ensures.shape.seen) c.requires.sizes.0) in
    sym (c.find_own-first.ensures.found was.0 was.1)
    ∙ (ap (λ t. own_share t was.0.zero was.0.one) c.leave_own-first.ensures.same ∙ c.leave_own-first.ensures.left was.0 was.1)
