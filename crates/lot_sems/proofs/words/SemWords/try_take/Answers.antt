use Rattle.std.proofs.Common.{inl}
use Rattle.lot_sems.specs.Calls.{MayTake, Found}
use Rattle.lot_sems.proofs.Turns.{at_sem, looks, after_look, tried}
use Rattle.lot_sems.proofs.words.SemWords.try_take.Goals as goal

pub load-pass-requires-clause-allows : goal.load-pass-requires-clause-allows
load-pass-requires-clause-allows c =
    at_sem c.self.view_is c.requires.key c.word_of_key.ensures (λ n. n) c.args.pass (Found c.args.pass c.args.key)
    (λ z. looks z.size c.args.pass c.args.key)

pub take_from-requires-clause-may : goal.take_from-requires-clause-may
take_from-requires-clause-may c =
    let key = c.args.key in
    let may : MayTake c.args.pass.own key = (c.requires.calm.0, inl c.requires.calm.1) in
    after_look c.args.pass c.load-pass.result.0 key c.load-pass.result.1 c.load-pass.ensures.told (λ own. MayTake own key) may

pub returns-then-was-lt-PERMIT-clause-entries : goal.returns-then-was-lt-PERMIT-clause-entries
returns-then-was-lt-PERMIT-clause-entries c = (c.load-pass.result.1, c.if-was-lt-PERMIT.true, c.load-pass.ensures.told)

pub returns-clause-entries : goal.returns-clause-entries
returns-clause-entries c =
    tried c.args.pass c.load-pass.result.0 c.args.key c.load-pass.result.1 c.load-pass.ensures.told c.if-was-lt-PERMIT.false
    c.take_from.result.1 c.take_from.result.0 c.take_from.ensures.entry
