use Rattle.std.proofs.Common.{refl}
use Rattle.lot_whole.specs.Rule.{size_of, meaning}
use Rattle.lot_words.proofs.Names.{park_names}
use Rattle.lot_whole.specs.Calls.{lock_of}
use Rattle.lot_whole.proofs.Carries.{Parks, parks}
use Rattle.lot_whole.proofs.Names.{both_of_kind, lock_root, lock_named}
use Rattle.lot_whole.proofs.words.LotWords.park.Goals as goal

pub load_both-pass-requires-clause-allows : goal.load_both-pass-requires-clause-allows
load_both-pass-requires-clause-allows g c =
    let start = c.self.inside.words.key in
    both_of_kind (meaning g.V.Keeps start) c.word-word.ensures.is (λ n. n) c.args.pass (lock_root c.args.root c.requires.lock)
    (Parks c.args.pass (lock_of c.args.root))
    (parks g.V.Keeps (size_of start) start.values.value.items c.args.pass (lock_of c.args.root) c.requires.may)

pub load_both-pass-requires-clause-names : goal.load_both-pass-requires-clause-names
load_both-pass-requires-clause-names g c n p' q' told u h =
    lock_named c.args.root q' u _ c.requires.lock _ told.1
    (λ named. park_names (lock_of c.args.root).own _ c.args.pass.thread u _ refl named) h

pub returns-clause-event : goal.returns-clause-event
returns-clause-event g c = c.load_both-pass.ensures.told.0

pub returns-clause-root : goal.returns-clause-root
returns-clause-root g c = c.load_both-pass.ensures.told.1
