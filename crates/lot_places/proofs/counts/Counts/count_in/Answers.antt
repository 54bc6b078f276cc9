use Rattle.std.proofs.Common.{◌<◌, length, refl, sym, subst}
use Rattle.lot_places.specs.Counted.{AreCounted}
use Rattle.lot_places.proofs.Counted.{counted_in, not_counted_in}
use Rattle.lot_places.proofs.counts.Counts.count_in.Goals as goal

pub returns-then-tells_of-clause-counted : goal.returns-then-tells_of-clause-counted
returns-then-tells_of-clause-counted c = λ threads counted.
    counted_in c.self.inside.counts.items threads c.args.thread c.index_mut.result.now
    (subst (λ xs. AreCounted xs threads) (sym c.self.view_is) counted)
    (subst (λ xs. c.args.thread < length xs) (sym c.self.view_is) (c.if-tells_of.ensures.0 refl).0) c.index_mut.ensures.value

pub returns-else-tells_of-clause-counted : goal.returns-else-tells_of-clause-counted
returns-else-tells_of-clause-counted c = λ threads counted.
    not_counted_in c.args.self.now threads c.args.thread counted (λ near few. absurd (let told = c.if-tells_of.ensures.1 (near, few) in cc))
