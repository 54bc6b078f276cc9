use Rattle.lot_words.proofs.Collecting.{collects}
use Rattle.lot_words.proofs.words.LockWords.collect.Goals as goal

pub collect-requires-clause-allows : goal.collect-requires-clause-allows
collect-requires-clause-allows g c =
    let start = c.self.inside.words.key in collects g.V.Keeps start.size start.values.value.items c.args.pass
