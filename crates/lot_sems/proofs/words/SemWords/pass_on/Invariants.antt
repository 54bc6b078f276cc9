use Rattle.lot_sems.proofs.Roots.{Passes}
use Rattle.lot_sems.proofs.words.SemWords.pass_on.Given as goal

abbrev pub ghosts-fetch_add_both : goal.ghosts-fetch_add_both
ghosts-fetch_add_both a = record { table = a.pass.table; then = λ n. Passes a.pass a.root a.root.own.line a._about }
