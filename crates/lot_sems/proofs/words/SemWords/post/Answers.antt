use Rattle.std.proofs.Common.{ap, inr}
use Rattle.lot_rights.specs.Shown.{RootShown}
use Rattle.lot_sems.specs.declared.views.SemRootView.{SemRootView}
use Rattle.lot_sems.specs.World.{numbers}
use Rattle.lot_sems.proofs.Names.{post_names}
use Rattle.lot_sems.proofs.Roots.{posts}
use Rattle.lot_sems.proofs.words.SemWords.post.Goals as goal

pub post-requires-clause-owes : goal.post-requires-clause-owes
post-requires-clause-owes c = inr c.requires.owes

pub post-requires-clause-allows : goal.post-requires-clause-allows
post-requires-clause-allows c = posts (numbers c.self.inside.words.key) c.args.root c.args.thread c.requires.owes

pub post-requires-clause-names : goal.post-requires-clause-names
post-requires-clause-names c n q' told u h =
    post_names c.args.root.own q'.own u (ap (λ (z : RootShown SemRootView). z.own) told.1) h

pub returns-clause-posted : goal.returns-clause-posted
returns-clause-posted c = c.post.ensures.told
