use Rattle.std.proofs.Common.{◌≡◌, [], sym, ap, subst, ◌∙◌}
use Rattle.lot_rights.specs.Shown.{RootShown}
use Rattle.lot_whole.specs.declared.views.LotRootView.{LotRootView}
use Rattle.lot_scheme.specs.Roots.{owes_in}
use Rattle.lot_scheme.specs.Standing.{LotStanding, standing}
use Rattle.lot_scheme.specs.Counts.{HasCounted}
use Rattle.lot_scheme.proofs.Counts.{clear_owes, has_counted}
use Rattle.lot_scheme.proofs.contention.LotSchemeContentionCountsKeys.count.Goals as goal

pub count-pass-requires-clause-clear : goal.count-pass-requires-clause-clear
count-pass-requires-clause-clear g c = clear_owes c.take_up-root.result.0.own
    (ap (λ (r : RootShown LotRootView). owes_in r.own) c.take_up-root.ensures.same ∙ c.requires.clear)

pub returns-clause-counts : goal.returns-clause-counts
returns-clause-counts g c =
    let root = c.take_up-root.result.0 in
    let named = ap (λ (r : RootShown LotRootView). r.key) c.take_up-root.ensures.same ∙ c.requires.named in
    let none : owes_in root.own ≡ [] = ap (λ (r : RootShown LotRootView). owes_in r.own) c.take_up-root.ensures.same ∙ c.requires.clear in
    subst (λ (s : LotStanding g.row.V.Denot). HasCounted c.args.pass c.args.key c.take_up-root.result.1 s) (sym c.new.ensures)
    (subst (λ (s : LotStanding g.row.V.Denot). HasCounted s c.args.key c.take_up-root.result.1 (standing c.count-pass.result.0))
    (sym c.into_pass.ensures.same)
    (has_counted c.into_pass.result c.count-pass.result.0 root c.args.key c.take_up-root.result.1 named none c.take_up-root.ensures.counted
    c.count-pass.ensures.entry))
