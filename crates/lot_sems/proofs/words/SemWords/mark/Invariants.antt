use Rattle.lot_sems.proofs.Turns.{Marks}
use Rattle.lot_sems.proofs.words.SemWords.mark.Given as goal

abbrev pub ghosts-compare_exchange : goal.ghosts-compare_exchange
ghosts-compare_exchange a = record { table = a.pass.table; then = Marks a.pass a._about }
