use Rattle.std.proofs.Common.{ap, inr}
use Rattle.lot_rights.specs.Shown.{RootShown}
use Rattle.lot_conds.specs.declared.views.CondRootView.{CondRootView}
use Rattle.lot_conds.proofs.Names.{post_names}
use Rattle.lot_conds.proofs.Turns.{posts}
use Rattle.lot_conds.proofs.words.CondWords.post.Goals as goal

pub post-requires-clause-owes : goal.post-requires-clause-owes
post-requires-clause-owes c = inr c.requires.owes

pub post-requires-clause-allows : goal.post-requires-clause-allows
post-requires-clause-allows c = posts c.self.inside.words.key c.args.root c.args.thread c.requires.owes

pub post-requires-clause-names : goal.post-requires-clause-names
post-requires-clause-names c n q' told u h =
    post_names c.args.root.own q'.own c.args.thread u (ap (λ (z : RootShown CondRootView). z.own) told.1) h

pub returns-clause-posted : goal.returns-clause-posted
returns-clause-posted c = c.post.ensures.told
