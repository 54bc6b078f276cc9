use Rattle.std.proofs.Common.{◌==◌, ◌<◌}
use prog.Atomic.{either}
use Rattle.lot_rights.specs.Layout.{word_at}
use Rattle.lot_rights.proofs.Places.{pass_at_word}
use Rattle.lot_words.specs.Shown.{meaning_of}
use Rattle.lot_words.proofs.Turns.{Marks, marks}
use Rattle.lot_words.proofs.words.LockWords.mark.Goals as goal

pub compare_exchange-pass-requires-clause-allows : goal.compare_exchange-pass-requires-clause-allows
compare_exchange-pass-requires-clause-allows g c =
    let key = c.args.key in
    pass_at_word (meaning_of g.V.Keeps) c.self.view_is (λ z. key < z.size.locks) c.requires.key (word_at key) c.word_of_key-word.ensures
    (λ n. either (n == 1) 3 n) c.args.pass (Marks c.args.pass key)
    (λ z here. marks g.V.Keeps z.size z.values c.args.pass key here c.requires.calm.0 c.requires.calm.1)

pub returns-clause-entry : goal.returns-clause-entry
returns-clause-entry g c = c.compare_exchange-pass.ensures.told
