use Rattle.lot_conds.proofs.Turns.{collects}
use Rattle.lot_conds.proofs.words.CondWords.collect.Goals as goal

pub collect-requires-clause-allows : goal.collect-requires-clause-allows
collect-requires-clause-allows c = collects c.self.inside.words.key c.args.pass
