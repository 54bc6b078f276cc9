use Rattle.lot_whole.specs.Family.{sem}
use Rattle.lot_whole.specs.Standing.{MayTakePermit}
use Rattle.lot_whole.proofs.Seekers.{Seeks, seeks, seeks_empty, seeks_left, after_look, taken}
use Rattle.lot_whole.proofs.Names.{at_word_of}
use Rattle.lot_whole.proofs.words.LotWords.take_permit.Goals as goal

pub load-pass-requires-clause-allows : goal.load-pass-requires-clause-allows
load-pass-requires-clause-allows g c =
    at_word_of g.V.Keeps sem c.self.view_is c.requires.key c.word_of_key.ensures (λ n. n) c.args.pass (Seeks c.args.pass c.args.key)
    (λ z among. seeks g.V.Keeps z.size z.values c.args.pass c.args.key among c.requires.may)

pub take_from-requires-clause-may : goal.take_from-requires-clause-may
take_from-requires-clause-may g c =
    let p = c.args.pass in
    let r = c.load-pass.result.0 in
    let key = c.args.key in
    let seen = c.load-pass.result.1 in
    after_look p r key seen (seeks_left p key seen r c.if-seen-lt-PERMIT.false c.load-pass.ensures.told)
    (λ own. MayTakePermit own key) c.requires.may.0

pub returns-then-seen-lt-PERMIT-clause-entries : goal.returns-then-seen-lt-PERMIT-clause-entries
returns-then-seen-lt-PERMIT-clause-entries g c =
    seeks_empty c.args.pass c.args.key c.load-pass.result.1 c.load-pass.result.0 c.if-seen-lt-PERMIT.true c.load-pass.ensures.told

pub returns-clause-entries : goal.returns-clause-entries
returns-clause-entries g c =
    taken c.args.pass c.load-pass.result.0 c.args.key c.load-pass.result.1
    (seeks_left c.args.pass c.args.key c.load-pass.result.1 c.load-pass.result.0 c.if-seen-lt-PERMIT.false c.load-pass.ensures.told)
    c.if-seen-lt-PERMIT.false c.take_from.result.1 c.take_from.result.0 c.take_from.ensures.entry
