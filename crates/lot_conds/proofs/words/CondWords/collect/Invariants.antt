use Rattle.lot_conds.specs.Calls.{CollectedBy}
use Rattle.lot_conds.proofs.words.CondWords.collect.Given as goal

abbrev pub ghosts-collect : goal.ghosts-collect
ghosts-collect a = record { table = a.pass.table; then = CollectedBy a.pass }
