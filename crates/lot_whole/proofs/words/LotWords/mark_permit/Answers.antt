use Rattle.std.proofs.Common.{◌==◌}
use prog.Atomic.{either}
use Rattle.lot_whole.specs.Family.{sem}
use Rattle.lot_whole.proofs.Seekers.{MarksPermit, marks}
use Rattle.lot_whole.proofs.Names.{at_word_of}
use Rattle.lot_whole.proofs.words.LotWords.mark_permit.Goals as goal

pub compare_exchange-pass-requires-clause-allows : goal.compare_exchange-pass-requires-clause-allows
compare_exchange-pass-requires-clause-allows g c =
    at_word_of g.V.Keeps sem c.self.view_is c.requires.key c.word_of_key-word.ensures (λ n. either (n == 0) 1 n) c.args.pass
    (MarksPermit c.args.pass c.args.key)
    (λ z among. marks g.V.Keeps z.size z.values c.args.pass c.args.key among c.requires.seeks)

pub returns-clause-entry : goal.returns-clause-entry
returns-clause-entry g c = c.compare_exchange-pass.ensures.told
