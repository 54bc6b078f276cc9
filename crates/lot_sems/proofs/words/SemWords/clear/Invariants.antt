use Rattle.lot_sems.proofs.Roots.{Clears}
use Rattle.lot_sems.proofs.words.SemWords.clear.Given as goal

abbrev pub ghosts-fetch_and_both : goal.ghosts-fetch_and_both
ghosts-fetch_and_both a = record { table = a.pass.table; then = λ n. Clears a.pass a.root }
