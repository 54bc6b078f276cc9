use Rattle.std.proofs.Common.{ap, inr}
use Rattle.lot_rights.specs.Shown.{RootShown}
use Rattle.lot_words.specs.declared.views.LockRootView.{LockRootView}
use Rattle.lot_words.proofs.Names.{post_names}
use Rattle.lot_words.proofs.Roots.{posts}
use Rattle.lot_words.proofs.words.LockWords.post.Goals as goal

pub post-requires-clause-owes : goal.post-requires-clause-owes
post-requires-clause-owes g c = inr (c.args.token, c.requires.owes)

pub post-requires-clause-allows : goal.post-requires-clause-allows
post-requires-clause-allows g c =
    let start = c.self.inside.words.key in
    posts g.V.Keeps start.size start.values.value.items c.args.root c.args.thread c.args.token c.requires.owes

pub post-requires-clause-names : goal.post-requires-clause-names
post-requires-clause-names g c n q' told u h =
    post_names c.args.root.own q'.own u (ap (λ (z : RootShown LockRootView). z.own) told.1) h

pub returns-clause-posted : goal.returns-clause-posted
returns-clause-posted g c = c.post.ensures.told
