use Rattle.std.proofs.Common.{◌==◌, ◌-◌, sym, subst}
use prog.Atomic.{either}
use Rattle.lot_events.specs.declared.events.Event.TheVariants.{SemTake}
use Rattle.lot_sems.specs.Calls.{one_permit_more, TakesFrom}
use Rattle.lot_sems.proofs.Turns.{at_sem, Swaps, swaps, took}
use Rattle.lot_sems.proofs.words.SemWords.take_from.Goals as goal

pub compare_exchange-pass-requires-clause-allows : goal.compare_exchange-pass-requires-clause-allows
compare_exchange-pass-requires-clause-allows c =
    let seen = c.args.seen in
    at_sem c.self.view_is c.requires.key c.word_of_key.ensures (λ n. either (n == seen) (seen - 2) n) c.args.pass
    (Swaps c.args.pass c.args.key (one_permit_more c.args.pass.own c.args.key) (SemTake c.args.pass.thread c.args.key) seen)
    (λ z among. swaps z.size c.args.pass c.args.key among c.requires.may seen c.requires.left)

pub returns-clause-entry : goal.returns-clause-entry
returns-clause-entry c =
    subst (λ y. TakesFrom c.args.pass c.args.key c.args.seen y c.compare_exchange-pass.result.0) (sym c.after.ensures)
    (took c.args.pass c.args.key c.args.seen _ c.compare_exchange-pass.result.0 c.compare_exchange-pass.ensures.told)
