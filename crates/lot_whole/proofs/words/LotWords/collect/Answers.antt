use Rattle.lot_whole.specs.Rule.{size_of}
use Rattle.lot_whole.proofs.Letters.{collects}
use Rattle.lot_whole.proofs.words.LotWords.collect.Goals as goal

pub collect-requires-clause-allows : goal.collect-requires-clause-allows
collect-requires-clause-allows g c =
    let start = c.self.inside.words.key in collects g.V.Keeps (size_of start) start.values.value.items c.args.pass
