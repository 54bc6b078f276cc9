use Rattle.std.proofs.Common.{◌<◌, subst, sym, refl}
use Rattle.lot_whole.specs.Rule.{size_of, meaning}
use Rattle.lot_whole.specs.Shown.{LotWordsShown}
use Rattle.lot_conds.proofs.Names.{enlist_names}
use Rattle.lot_whole.proofs.Carries.{Enlists, enlists}
use Rattle.lot_whole.specs.Calls.{cond_of}
use Rattle.lot_whole.proofs.Names.{both_of_kind, cond_root, cond_named}
use Rattle.lot_whole.proofs.words.LotWords.enlist.Goals as goal

pub store_both-requires-clause-allows : goal.store_both-requires-clause-allows
store_both-requires-clause-allows g c =
    let start = c.self.inside.words.key in
    let near = subst (λ (z : LotWordsShown g.row.V.Denot). c.args.lock < z.size.locks) (sym c.self.view_is) c.requires.lock.0 in
    both_of_kind (meaning g.V.Keeps start) c.word-word.ensures.is (λ _. 1) c.args.pass (cond_root c.args.root c.requires.cond)
    (λ _. Enlists c.args.pass (cond_of c.args.root) c.args.lock)
    (enlists g.V.Keeps (size_of start) start.values.value.items c.args.pass (cond_of c.args.root) c.requires.idle c.args.lock near
    c.requires.lock.1
    c.requires.above)

pub store_both-requires-clause-names : goal.store_both-requires-clause-names
store_both-requires-clause-names g c n p' q' told u h =
    cond_named c.args.root q' u _ c.requires.cond _ told.1
    (λ named. enlist_names (cond_of c.args.root).own _ c.args.pass.thread u refl named) h

pub returns-clause-event : goal.returns-clause-event
returns-clause-event g c = c.store_both.ensures.told.0

pub returns-clause-root : goal.returns-clause-root
returns-clause-root g c = c.store_both.ensures.told.1
