use Rattle.std.proofs.Common.{◌==◌, ◌<◌}
use prog.Atomic.{either}
use Rattle.lot_rights.specs.Layout.{word_at}
use Rattle.lot_rights.proofs.Places.{pass_at_word}
use Rattle.lot_words.specs.Shown.{meaning_of}
use Rattle.lot_words.proofs.Turns.{TakesFree, takes_free, got_free, missed_free}
use Rattle.lot_words.proofs.words.LockWords.take_free.Goals as goal

pub compare_exchange-requires-clause-allows : goal.compare_exchange-requires-clause-allows
compare_exchange-requires-clause-allows g c =
    let key = c.args.key in
    pass_at_word (meaning_of g.V.Keeps) c.self.view_is (λ z. key < z.size.locks) c.requires.key (word_at key) c.word_of_key.ensures
    (λ n. either (n == 0) 1 n) c.args.pass (TakesFree g.V.Keeps c.args.pass key)
    (λ z here. takes_free g.V.Keeps z.size z.values c.args.pass key here c.requires.calm.0 c.requires.calm.1)

pub returns-clause-got : goal.returns-clause-got
returns-clause-got g c free = got_free g.V.Keeps c.args.pass c.args.key _ c.compare_exchange.result.0 free c.compare_exchange.ensures.told

pub returns-clause-missed : goal.returns-clause-missed
returns-clause-missed g c other = missed_free g.V.Keeps c.args.pass c.args.key _ c.compare_exchange.result.0 other
    c.compare_exchange.ensures.told
