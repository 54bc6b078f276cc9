use Rattle.lot_words.proofs.Turns.{Frees}
use Rattle.lot_words.proofs.words.LockWords.free.Given as goal

abbrev pub ghosts-compare_exchange : goal.ghosts-compare_exchange
ghosts-compare_exchange g a = record { table = a.pass.table; then = Frees a.pass a._about }
