use Rattle.std.proofs.Common.{◌<◌, length, get_or, arith, refl, sym, subst}
use Rattle.std.proofs.lemmas.List.{get_or_default}
use Rattle.lot_places.specs.Counted.{AreCounted}
use Rattle.lot_places.proofs.Counted.{counted_out, not_counted_out}
use Rattle.lot_places.proofs.counts.Counts.count_out.Goals as goal

pub returns-then-tells_of-clause-counted : goal.returns-then-tells_of-clause-counted
returns-then-tells_of-clause-counted c = λ threads i counted lt here.
    let counts = c.self.inside.counts.items in
    let near : c.args.thread < length counts =
    subst (λ xs. c.args.thread < length xs) (sym c.self.view_is) (c.if-tells_of.ensures.0 refl).0 in
    let few : get_or counts c.args.thread 0 < 255 =
    subst (λ xs. get_or xs c.args.thread 0 < 255) (sym c.self.view_is) (c.if-tells_of.ensures.0 refl).1 in
    rw c.saturating_sub.ensures
    (counted_out counts threads c.args.thread i c.index_mut-count.result.now
    (subst (λ xs. AreCounted xs threads) (sym c.self.view_is) counted) lt here near c.index_mut-count.ensures.value
    (omega (arith, few, c.index_mut-count.ensures.value, get_or_default counts c.args.thread c.index_mut-count.result.now 0 near)))

pub returns-else-tells_of-clause-counted : goal.returns-else-tells_of-clause-counted
returns-else-tells_of-clause-counted c = λ threads i counted lt here.
    not_counted_out c.args.self.now threads c.args.thread i counted lt here
    (λ near few. absurd (let told = c.if-tells_of.ensures.1 (near, few) in cc))
