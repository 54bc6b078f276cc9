use Rattle.std.proofs.Common.{◌==◌}
use prog.Atomic.{either}
use Rattle.lot_sems.proofs.Turns.{at_sem, Marks, marks}
use Rattle.lot_sems.proofs.words.SemWords.mark.Goals as goal

pub compare_exchange-pass-requires-clause-allows : goal.compare_exchange-pass-requires-clause-allows
compare_exchange-pass-requires-clause-allows c =
    at_sem c.self.view_is c.requires.key c.word_of_key-word.ensures (λ n. either (n == 0) 1 n) c.args.pass (Marks c.args.pass c.args.key)
    (λ z among. marks z.size c.args.pass c.args.key among c.requires.seeks)

pub returns-clause-entry : goal.returns-clause-entry
returns-clause-entry c = c.compare_exchange-pass.ensures.told
