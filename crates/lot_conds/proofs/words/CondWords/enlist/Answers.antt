use Rattle.std.proofs.Common.{ap}
use Rattle.lot_rights.specs.Shown.{RootShown}
use Rattle.lot_rights.specs.Layout.{word_at}
use Rattle.lot_rights.proofs.Places.{both_at_place}
use Rattle.lot_conds.specs.declared.views.CondRootView.{CondRootView}
use Rattle.lot_conds.specs.Rule.{meaning}
use Rattle.lot_conds.proofs.Names.{enlist_names}
use Rattle.lot_conds.proofs.Turns.{Enlists, enlists}
use Rattle.lot_conds.proofs.words.CondWords.enlist.Goals as goal

pub store_both-requires-clause-allows : goal.store_both-requires-clause-allows
store_both-requires-clause-allows c =
    let p = c.args.pass in
    let q = c.args.root in
    let size = c.self.inside.words.key in
    both_at_place (meaning size) (word_at q.key) _ c.word-word.ensures.is (λ _. 1) p q (λ _. Enlists p q) (enlists size p q c.requires.calm)

pub store_both-requires-clause-names : goal.store_both-requires-clause-names
store_both-requires-clause-names c n p' q' told u h =
    enlist_names c.args.root.own q'.own c.args.pass.thread u (ap (λ (z : RootShown CondRootView). z.own) told.1) h

pub returns-clause-event : goal.returns-clause-event
returns-clause-event c = c.store_both.ensures.told.0

pub returns-clause-root : goal.returns-clause-root
returns-clause-root c = c.store_both.ensures.told.1
