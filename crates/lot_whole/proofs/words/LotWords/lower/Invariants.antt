use Rattle.lot_whole.proofs.Carries.{Lowers}
use Rattle.lot_whole.proofs.words.LotWords.lower.Given as goal

abbrev pub ghosts-store : goal.ghosts-store
ghosts-store g a = record { table = a.pass.table; then = λ n. Lowers a.pass a._about }
