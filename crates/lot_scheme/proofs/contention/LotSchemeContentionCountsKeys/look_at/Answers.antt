use Rattle.std.proofs.Common.{◌≡◌, [], ap, subst, ◌∙◌}
use Rattle.lot_rights.specs.Shown.{RootShown}
use Rattle.lot_whole.specs.declared.views.LotRootView.{LotRootView}
use Rattle.lot_whole.specs.Family.{LotSize}
use Rattle.lot_scheme.specs.Counts.{WasCounted}
use Rattle.lot_scheme.specs.Roots.{owes_in, size_named}
use Rattle.lot_scheme.proofs.Counts.{was_counted}
use Rattle.lot_scheme.proofs.contention.LotSchemeContentionCountsKeys.look_at.Goals as goal

pub returns-clause-counted : goal.returns-clause-counted
returns-clause-counted g c =
    let words = c.words.result.now in
    let root = c.apart-root.result.0 in
    let none : owes_in root.own ≡ [] = ap (λ (r : RootShown LotRootView). owes_in r.own) c.apart-root.ensures.same ∙ c.requires.clear in
    let names = g.N.LotName in
    let size = size_named names.threads names.locks names.conds names.permits in
    subst (λ (r : RootShown LotRootView). WasCounted g.V.Keeps size r.key c.apart-root.result.1) c.apart-root.ensures.same
    (subst (λ (z : LotSize). WasCounted g.V.Keeps z root.key c.apart-root.result.1) c.words.ensures.size
    (was_counted g.V.Keeps words.size words.values c.apart-root.result.1 root c.check_root-root.ensures.moment none
    c.apart-root.ensures.counted))
