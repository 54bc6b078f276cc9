use Rattle.std.proofs.Common.{ap}
use Rattle.lot_rights.specs.Shown.{RootShown}
use Rattle.lot_rights.specs.Layout.{word_at}
use Rattle.lot_rights.proofs.Places.{both_at_place}
use Rattle.lot_words.specs.declared.views.LockRootView.{LockRootView}
use Rattle.lot_words.specs.Rule.{meaning}
use Rattle.lot_words.proofs.Names.{park_names}
use Rattle.lot_words.proofs.Turns.{Parks}
use Rattle.lot_words.proofs.Roots.{parks}
use Rattle.lot_words.proofs.words.LockWords.park.Goals as goal

pub load_both-pass-requires-clause-allows : goal.load_both-pass-requires-clause-allows
load_both-pass-requires-clause-allows g c =
    let start = c.self.inside.words.key in
    let p = c.args.pass in
    let q = c.args.root in
    both_at_place (meaning g.V.Keeps start.size start.values.value.items) (word_at q.key) _ c.word-word.ensures.is (λ n. n) p q (Parks p q)
    (parks g.V.Keeps start.size start.values.value.items p q c.requires.calm.0 c.requires.calm.1)

pub load_both-pass-requires-clause-names : goal.load_both-pass-requires-clause-names
load_both-pass-requires-clause-names g c n p' q' told u h =
    park_names c.args.root.own q'.own c.args.pass.thread u _ (ap (λ (z : RootShown LockRootView). z.own) told.1) h

pub returns-clause-event : goal.returns-clause-event
returns-clause-event g c = c.load_both-pass.ensures.told.0

pub returns-clause-root : goal.returns-clause-root
returns-clause-root g c = c.load_both-pass.ensures.told.1
