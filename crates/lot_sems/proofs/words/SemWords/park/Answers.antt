use Rattle.std.proofs.Common.{ap}
use Rattle.lot_rights.specs.Shown.{RootShown}
use Rattle.lot_rights.specs.Layout.{word_at}
use Rattle.lot_rights.proofs.Places.{both_at_place}
use Rattle.lot_sems.specs.declared.views.SemRootView.{SemRootView}
use Rattle.lot_sems.specs.World.{numbers}
use Rattle.lot_sems.specs.Rule.{meaning}
use Rattle.lot_sems.proofs.Names.{park_names}
use Rattle.lot_sems.proofs.Roots.{Parks, parks}
use Rattle.lot_sems.proofs.words.SemWords.park.Goals as goal

pub load_both-pass-requires-clause-allows : goal.load_both-pass-requires-clause-allows
load_both-pass-requires-clause-allows c =
    let p = c.args.pass in
    let q = c.args.root in
    let size = numbers c.self.inside.words.key in
    both_at_place (meaning size) (word_at q.key) _ c.word-word.ensures.is (λ n. n) p q (Parks p q) (parks size p q c.requires.seeks)

pub load_both-pass-requires-clause-names : goal.load_both-pass-requires-clause-names
load_both-pass-requires-clause-names c n p' q' told u h =
    park_names c.args.root.own q'.own c.args.pass.thread u _ (ap (λ (z : RootShown SemRootView). z.own) told.1) h

pub returns-clause-entry : goal.returns-clause-entry
returns-clause-entry c = c.load_both-pass.ensures.told.0

pub returns-clause-root : goal.returns-clause-root
returns-clause-root c = c.load_both-pass.ensures.told.1
