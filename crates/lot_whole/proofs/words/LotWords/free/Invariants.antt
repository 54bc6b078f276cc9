use Rattle.lot_whole.proofs.Carries.{Frees}
use Rattle.lot_whole.proofs.words.LotWords.free.Given as goal

abbrev pub ghosts-compare_exchange : goal.ghosts-compare_exchange
ghosts-compare_exchange g a = record { table = a.pass.table; then = Frees a.pass a._about }
