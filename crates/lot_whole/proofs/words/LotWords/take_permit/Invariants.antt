use Rattle.lot_whole.proofs.Seekers.{Seeks}
use Rattle.lot_whole.proofs.words.LotWords.take_permit.Given as goal

abbrev pub ghosts-load : goal.ghosts-load
ghosts-load g a = record { table = a.pass.table; then = Seeks a.pass a._about }
