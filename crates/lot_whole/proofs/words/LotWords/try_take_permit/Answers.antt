use Rattle.lot_whole.specs.Family.{sem}
use Rattle.lot_whole.specs.Standing.{MayTakePermit}
use Rattle.lot_whole.specs.Calls.{FindsOf}
use Rattle.lot_whole.proofs.Seekers.{looks, after_look, idle_takes, tried}
use Rattle.lot_whole.proofs.Names.{at_word_of}
use Rattle.lot_whole.proofs.words.LotWords.try_take_permit.Goals as goal

pub load-pass-requires-clause-allows : goal.load-pass-requires-clause-allows
load-pass-requires-clause-allows g c =
    at_word_of g.V.Keeps sem c.self.view_is c.requires.key c.word_of_key.ensures (λ n. n) c.args.pass (FindsOf c.args.pass c.args.key)
    (λ z. looks g.V.Keeps z.size z.values c.args.pass c.args.key)

pub take_from-requires-clause-may : goal.take_from-requires-clause-may
take_from-requires-clause-may g c =
    let key = c.args.key in
    let p = c.args.pass in
    after_look p c.load-pass.result.0 key c.load-pass.result.1 c.load-pass.ensures.told (λ own. MayTakePermit own key)
    (idle_takes p.own key c.requires.idle)

pub returns-then-was-lt-PERMIT-clause-entries : goal.returns-then-was-lt-PERMIT-clause-entries
returns-then-was-lt-PERMIT-clause-entries g c = (c.load-pass.result.1, c.if-was-lt-PERMIT.true, c.load-pass.ensures.told)

pub returns-clause-entries : goal.returns-clause-entries
returns-clause-entries g c =
    tried c.args.pass c.load-pass.result.0 c.args.key c.load-pass.result.1 c.load-pass.ensures.told c.if-was-lt-PERMIT.false
    c.take_from.result.1 c.take_from.result.0 c.take_from.ensures.entry
