use Rattle.std.proofs.Common.{◌==◌, ◌-◌, sym, subst}
use prog.Atomic.{either}
use Rattle.lot_events.specs.declared.events.Event.TheVariants.{SemTake}
use Rattle.lot_sems.specs.Calls.{one_permit_more}
use Rattle.lot_whole.specs.Family.{sem}
use Rattle.lot_whole.specs.Calls.{TakesFrom}
use Rattle.lot_whole.proofs.Seekers.{Swaps, swaps, took}
use Rattle.lot_whole.proofs.Names.{at_word_of}
use Rattle.lot_whole.proofs.words.LotWords.take_from.Goals as goal

pub compare_exchange-pass-requires-clause-allows : goal.compare_exchange-pass-requires-clause-allows
compare_exchange-pass-requires-clause-allows g c =
    let seen = c.args.seen in
    at_word_of g.V.Keeps sem c.self.view_is c.requires.key c.word_of_key.ensures (λ n. either (n == seen) (seen - 2) n) c.args.pass
    (Swaps c.args.pass c.args.key (one_permit_more c.args.pass.own.sems c.args.key) (SemTake c.args.pass.thread c.args.key) seen)
    (λ z among. swaps g.V.Keeps z.size z.values c.args.pass c.args.key among c.requires.may seen c.requires.left)

pub returns-clause-entry : goal.returns-clause-entry
returns-clause-entry g c =
    subst (λ y. TakesFrom c.args.pass c.args.key c.args.seen y c.compare_exchange-pass.result.0) (sym c.after.ensures)
    (took c.args.pass c.args.key c.args.seen _ c.compare_exchange-pass.result.0 c.compare_exchange-pass.ensures.told)
