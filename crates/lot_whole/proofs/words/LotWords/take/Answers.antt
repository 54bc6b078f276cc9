use Rattle.std.proofs.Common.{bit_or, ◌<◌}
use Rattle.lot_rights.specs.Layout.{word_at}
use Rattle.lot_rights.proofs.Places.{pass_at_word}
use Rattle.lot_whole.specs.Shown.{lot_of}
use Rattle.lot_whole.proofs.Carries.{Takes, takes}
use Rattle.lot_whole.proofs.words.LotWords.take.Goals as goal

pub fetch_or-pass-requires-clause-allows : goal.fetch_or-pass-requires-clause-allows
fetch_or-pass-requires-clause-allows g c =
    let key = c.args.key in
    pass_at_word (lot_of g.V.Keeps) c.self.view_is (λ z. key < z.size.locks) c.requires.key (word_at key) c.word_of_key.ensures
    (λ n. bit_or n 1) c.args.pass (Takes g.V.Keeps c.args.pass key)
    (λ z here. takes g.V.Keeps z.size z.values c.args.pass key here c.requires.may)

pub returns-clause-event : goal.returns-clause-event
returns-clause-event g c = c.fetch_or-pass.ensures.told
