use Rattle.std.proofs.Common.{ap, ◌∙◌, arith}
use Rattle.lot_sync.specs.Lot.{LotView}
use Rattle.lot_trials.proofs.counts.end.Goals as goal

pub close-requires-clause-all : goal.close-requires-clause-all
close-requires-clause-all g c κs within = λ t near.
    let e = ap (λ (v : LotView). v.threads) (c.take_left.ensures.same ∙ c.gather.ensures.same) in
    let n = c.requires.threads in
    c.gather.ensures.all t (omega (arith, e, n))
