use Rattle.lot_sems.specs.Calls.{Found}
use Rattle.lot_sems.proofs.words.SemWords.try_take.Given as goal

abbrev pub ghosts-load : goal.ghosts-load
ghosts-load a = record { table = a.pass.table; then = Found a.pass a._about }
