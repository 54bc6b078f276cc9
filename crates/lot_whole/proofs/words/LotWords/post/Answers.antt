use Rattle.std.proofs.Common.{ap, subst}
use Rattle.lot_rights.specs.Shown.{RootShown}
use Rattle.lot_whole.specs.declared.views.LotRootView.{LotRootView}
use Rattle.lot_whole.specs.Lot.{names}
use Rattle.lot_whole.specs.Rule.{size_of}
use Rattle.lot_whole.proofs.Paying.{posts, owed_is_named, named_before}
use Rattle.lot_whole.proofs.words.LotWords.post.Goals as goal

pub post-requires-clause-owes : goal.post-requires-clause-owes
post-requires-clause-owes g c = owed_is_named c.args.root.own c.args.thread c.args.token c.requires.owes

pub post-requires-clause-allows : goal.post-requires-clause-allows
post-requires-clause-allows g c =
    let start = c.self.inside.words.key in
    posts g.V.Keeps (size_of start) start.values.value.items c.args.root c.args.thread c.args.token c.requires.owes

pub post-requires-clause-names : goal.post-requires-clause-names
post-requires-clause-names g c n q' told u h =
    named_before c.args.root.own c.args.thread u (subst (λ o. names o u) (ap (λ (z : RootShown LotRootView). z.own) told.1) h)

pub returns-clause-posted : goal.returns-clause-posted
returns-clause-posted g c = c.post.ensures.told
