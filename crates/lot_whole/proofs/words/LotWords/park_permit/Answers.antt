use Rattle.std.proofs.Common.{refl}
use Rattle.lot_whole.specs.Rule.{size_of, meaning}
use Rattle.lot_whole.specs.Calls.{sem_of}
use Rattle.lot_whole.proofs.Names.{both_of_kind, sem_root, sem_named}
use Rattle.lot_sems.proofs.Names.{park_names}
use Rattle.lot_whole.proofs.Seekers.{ParksSem, parks}
use Rattle.lot_whole.proofs.words.LotWords.park_permit.Goals as goal

pub load_both-pass-requires-clause-allows : goal.load_both-pass-requires-clause-allows
load_both-pass-requires-clause-allows g c =
    let start = c.self.inside.words.key in
    both_of_kind (meaning g.V.Keeps start) c.word-word.ensures.is (λ n. n) c.args.pass (sem_root c.args.root c.requires.sem)
    (ParksSem c.args.pass (sem_of c.args.root))
    (parks g.V.Keeps (size_of start) start.values.value.items c.args.pass (sem_of c.args.root) c.requires.seeks)

pub load_both-pass-requires-clause-names : goal.load_both-pass-requires-clause-names
load_both-pass-requires-clause-names g c n p' q' told u h =
    sem_named c.args.root q' u _ c.requires.sem _ told.1
    (λ named. park_names (sem_of c.args.root).own _ c.args.pass.thread u _ refl named) h

pub returns-clause-entry : goal.returns-clause-entry
returns-clause-entry g c = c.load_both-pass.ensures.told.0

pub returns-clause-root : goal.returns-clause-root
returns-clause-root g c = c.load_both-pass.ensures.told.1
