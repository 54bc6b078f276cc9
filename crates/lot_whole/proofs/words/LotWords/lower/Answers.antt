use Rattle.lot_whole.specs.Family.{cond}
use Rattle.lot_whole.proofs.Carries.{Lowers, lowers}
use Rattle.lot_whole.proofs.Names.{at_word_of}
use Rattle.lot_whole.proofs.words.LotWords.lower.Goals as goal

pub store-requires-clause-allows : goal.store-requires-clause-allows
store-requires-clause-allows g c =
    at_word_of g.V.Keeps cond c.self.view_is c.requires.key c.word_of_key.ensures (λ _. 0) c.args.pass (λ _. Lowers c.args.pass c.args.key)
    (λ z here. lowers g.V.Keeps z.size z.values c.args.pass c.args.key here c.requires.idle)

pub returns-clause-event : goal.returns-clause-event
returns-clause-event g c = c.store.ensures.told
