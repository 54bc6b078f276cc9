use Rattle.std.proofs.Common.{sym, ap, subst, ◌∙◌}
use Rattle.std.specs.List.{Contains}
use Rattle.lot_rights.specs.Shown.{RootShown}
use Rattle.lot_rights.specs.declared.views.Access.TheVariants.{Posts}
use Rattle.lot_park.specs.Parking.{without_debt}
use Rattle.lot_whole.specs.declared.views.LotRootView.{LotRootView}
use Rattle.lot_scheme.specs.Roots.{root_view}
use Rattle.lot_scheme.proofs.Counts.{posted_on}
use Rattle.lot_scheme.proofs.Owed.{owed_letter, owes_after}
use Rattle.lot_scheme.proofs.scheme.LotSchemeScheme.post.Goals as goal

pub post-root-requires-clause-owes : goal.post-root-requires-clause-owes
post-root-requires-clause-owes g c =
    owed_letter c.apart-root.result.0.own c.args.at c.args.token.0
    (subst (λ (r : RootShown LotRootView). Contains (root_view r).owes (c.args.at, c.args.token.0))
    (sym c.apart-root.ensures.same) c.requires)

pub counted-requires-clause-counted : goal.counted-requires-clause-counted
counted-requires-clause-counted g c =
    let q = c.apart-root.result.0 in
    let has = subst (λ (r : RootShown LotRootView). Contains (root_view r).owes (c.args.at, c.args.token.0)) (sym c.apart-root.ensures.same)
    c.requires in
    posted_on (g.C.Tally.counts c.apart-root.result.1) (g.C.Tally.counts c.told.result) q c.post-root.result c.args.at c.args.token.0
    c.told.ensures c.post-root.ensures.posted (owed_letter q.own c.args.at c.args.token.0 has) c.apart-root.ensures.counted

pub returns-clause-owes : goal.returns-clause-owes
returns-clause-owes g c =
    let q = c.apart-root.result.0 in
    let has = subst (λ (r : RootShown LotRootView). Contains (root_view r).owes (c.args.at, c.args.token.0)) (sym c.apart-root.ensures.same)
    c.requires in
    ap (λ (r : RootShown LotRootView). (root_view r).owes) c.counted.ensures
    ∙ (owes_after q c.post-root.result c.args.at c.args.token.0 (Posts q.key c.args.at c.args.token.0) c.post-root.ensures.posted has
    ∙ ap (λ (r : RootShown LotRootView). without_debt c.args.at c.args.token.0 (root_view r).owes) c.apart-root.ensures.same)
