use Rattle.lot_sems.specs.Calls.{CollectedBy}
use Rattle.lot_sems.proofs.words.SemWords.collect.Given as goal

abbrev pub ghosts-collect : goal.ghosts-collect
ghosts-collect a = record { table = a.pass.table; then = CollectedBy a.pass }
