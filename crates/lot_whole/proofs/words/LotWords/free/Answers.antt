use Rattle.std.proofs.Common.{◌==◌, ◌<◌}
use prog.Atomic.{either}
use Rattle.lot_rights.specs.Layout.{word_at}
use Rattle.lot_rights.proofs.Places.{pass_at_word}
use Rattle.lot_whole.specs.Shown.{lot_of}
use Rattle.lot_whole.proofs.Carries.{Frees, frees}
use Rattle.lot_whole.proofs.words.LotWords.free.Goals as goal

pub compare_exchange-pass-requires-clause-allows : goal.compare_exchange-pass-requires-clause-allows
compare_exchange-pass-requires-clause-allows g c =
    let key = c.args.key in
    pass_at_word (lot_of g.V.Keeps) c.self.view_is (λ z. key < z.size.locks) c.requires.key (word_at key) c.word_of_key-word.ensures
    (λ n. either (n == 1) 0 n) c.args.pass (Frees c.args.pass key)
    (λ z here. frees g.V.Keeps z.size z.values c.args.pass key here c.requires.may c.requires.holds c.requires.lies.0
    c.requires.lies.1)

pub returns-clause-event : goal.returns-clause-event
returns-clause-event g c = c.compare_exchange-pass.ensures.told
