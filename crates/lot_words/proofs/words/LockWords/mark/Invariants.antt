use Rattle.lot_words.proofs.Turns.{Marks}
use Rattle.lot_words.proofs.words.LockWords.mark.Given as goal

abbrev pub ghosts-compare_exchange : goal.ghosts-compare_exchange
ghosts-compare_exchange g a = record { table = a.pass.table; then = Marks a.pass a._about }
