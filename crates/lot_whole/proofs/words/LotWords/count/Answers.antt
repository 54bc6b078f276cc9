use Rattle.std.proofs.Common.{inl, subst}
use Rattle.lot_rights.specs.Shown.{RootShown}
use Rattle.lot_rights.specs.Layout.{word_at}
use Rattle.lot_rights.proofs.Places.{both_at_place}
use Rattle.lot_whole.specs.declared.views.LotRootView.{LotRootView}
use Rattle.lot_whole.specs.Lot.{names}
use Rattle.lot_whole.specs.Rule.{size_of, meaning}
use Rattle.lot_whole.proofs.Counting.{CountsWith, counts}
use Rattle.lot_whole.proofs.words.LotWords.count.Goals as goal

pub load_both-pass-requires-clause-allows : goal.load_both-pass-requires-clause-allows
load_both-pass-requires-clause-allows g c =
    let start = c.self.inside.words.key in
    let p = c.args.pass in
    let q = c.args.root in
    both_at_place (meaning g.V.Keeps start) (word_at q.key) _ c.word-word.ensures.is (λ n. n) p q (λ n. CountsWith p q)
    (counts g.V.Keeps (size_of start) start.values.value.items p q c.requires.clear)

pub load_both-pass-requires-clause-names : goal.load_both-pass-requires-clause-names
load_both-pass-requires-clause-names g c n p' q' told u h = inl (subst (λ (r : RootShown LotRootView). names r.own u) told.1 h)

pub returns-clause-entry : goal.returns-clause-entry
returns-clause-entry g c = c.load_both-pass.ensures.told.0

pub returns-clause-same : goal.returns-clause-same
returns-clause-same g c = c.load_both-pass.ensures.told.1
