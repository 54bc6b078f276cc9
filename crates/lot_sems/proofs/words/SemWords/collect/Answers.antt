use Rattle.lot_sems.specs.World.{numbers}
use Rattle.lot_sems.proofs.Roots.{collects}
use Rattle.lot_sems.proofs.words.SemWords.collect.Goals as goal

pub collect-requires-clause-allows : goal.collect-requires-clause-allows
collect-requires-clause-allows c = collects (numbers c.self.inside.words.key) c.args.pass
