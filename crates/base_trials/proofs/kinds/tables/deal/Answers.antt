use Rattle.std.proofs.Common.{◌≡◌, refl}
use Rattle.base_trials.specs.Opened.{fresh_at, size_of}
use Rattle.base_trials.proofs.Dealt.{three_taken}
use Rattle.base_trials.proofs.Opened.{fresh_is}
use Rattle.base_trials.proofs.kinds.tables.deal.Goals as goal

pub returns-clause-fresh : goal.returns-clause-fresh
returns-clause-fresh g c =
    let table = g.N.Name.opening.locks in
    let locks = g.N.LotName.locks in
    let conds = g.N.LotName.conds in
    let values = c.requires.values in
    let own = fresh_at table (size_of locks conds) values in
    let all = three_taken own (λ t p. p ≡ own t) (λ t p is. is) _ _ _ _ _ _ _ c.take_three-zero.ensures.taken refl refl
    (c.requires.long, c.requires.each) in (
      fresh_is table locks conds values 0 _ _ all.0 c.new.ensures,
      fresh_is table locks conds values 1 _ _ all.1 c.new-2.ensures,
      fresh_is table locks conds values 2 _ _ all.2 c.new-3.ensures,
    )
