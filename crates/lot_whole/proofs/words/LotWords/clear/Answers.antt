use Rattle.std.proofs.Common.{◌-◌, ◌^◌, ◌∙◌, bit_and, inl}
use Rattle.lot_whole.specs.Rule.{size_of, meaning}
use Rattle.lot_whole.specs.Calls.{sem_of}
use Rattle.lot_whole.proofs.Names.{both_of_kind, sem_root, sem_named}
use Rattle.lot_whole.proofs.Seekers.{Clears, clears}
use Rattle.lot_whole.proofs.words.LotWords.clear.Goals as goal

pub fetch_and_both-pass-requires-clause-allows : goal.fetch_and_both-pass-requires-clause-allows
fetch_and_both-pass-requires-clause-allows g c =
    let start = c.self.inside.words.key in
    both_of_kind (meaning g.V.Keeps start) c.word-word.ensures.is (λ n. bit_and n (2 ^ 64 - 2)) c.args.pass
    (sem_root c.args.root c.requires.sem) (λ _. Clears c.args.pass (sem_of c.args.root))
    (clears g.V.Keeps (size_of start) start.values.value.items c.args.pass (sem_of c.args.root) c.requires.idle c.requires.nobody)

pub fetch_and_both-pass-requires-clause-names : goal.fetch_and_both-pass-requires-clause-names
fetch_and_both-pass-requires-clause-names g c n p' q' told u h =
    sem_named c.args.root q' u _ c.requires.sem _ told.1 (λ named. inl named) h

pub returns-clause-entry : goal.returns-clause-entry
returns-clause-entry g c = c.fetch_and_both-pass.ensures.told.0

pub returns-clause-root : goal.returns-clause-root
returns-clause-root g c = c.fetch_and_both-pass.ensures.told.1 ∙ sem_root c.args.root c.requires.sem
