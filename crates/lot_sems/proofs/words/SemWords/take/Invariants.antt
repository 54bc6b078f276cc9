use Rattle.lot_sems.proofs.Turns.{Seeks}
use Rattle.lot_sems.proofs.words.SemWords.take.Given as goal

abbrev pub ghosts-load : goal.ghosts-load
ghosts-load a = record { table = a.pass.table; then = Seeks a.pass a._about }
