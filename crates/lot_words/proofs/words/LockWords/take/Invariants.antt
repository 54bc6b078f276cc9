use Rattle.lot_words.proofs.Turns.{Takes}
use Rattle.lot_words.proofs.words.LockWords.take.Given as goal

abbrev pub ghosts-fetch_or : goal.ghosts-fetch_or
ghosts-fetch_or g a = record { table = a.pass.table; then = Takes g.V.Keeps a.pass a._about }
