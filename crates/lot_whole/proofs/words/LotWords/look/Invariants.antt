use Rattle.lot_whole.proofs.Carries.{Looks}
use Rattle.lot_whole.proofs.words.LotWords.look.Given as goal

abbrev pub ghosts-load : goal.ghosts-load
ghosts-load g a = record { table = a.pass.table; then = Looks a.pass a._about }
