use Rattle.lot_sems.proofs.Roots.{Parks}
use Rattle.lot_sems.proofs.words.SemWords.park.Given as goal

abbrev pub ghosts-load_both : goal.ghosts-load_both
ghosts-load_both a = record { table = a.pass.table; then = Parks a.pass a.root }
