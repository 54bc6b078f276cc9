use Rattle.lot_whole.specs.Family.{cond}
use Rattle.lot_whole.proofs.Carries.{Looks, looks}
use Rattle.lot_whole.proofs.Names.{at_word_of}
use Rattle.lot_whole.proofs.words.LotWords.look.Goals as goal

pub load-pass-requires-clause-allows : goal.load-pass-requires-clause-allows
load-pass-requires-clause-allows g c =
    at_word_of g.V.Keeps cond c.self.view_is c.requires.key c.word_of_key.ensures (λ n. n) c.args.pass (Looks c.args.pass c.args.key)
    (λ z here. looks g.V.Keeps z.size z.values c.args.pass c.args.key here c.requires.idle)

pub returns-clause-event : goal.returns-clause-event
returns-clause-event g c = c.load-pass.ensures.told
