use Rattle.lot_whole.proofs.Counting.{CountsWith}
use Rattle.lot_whole.proofs.words.LotWords.count.Given as goal

abbrev pub ghosts-load_both : goal.ghosts-load_both
ghosts-load_both g a = record { table = a.pass.table; then = λ n. CountsWith a.pass a.root }
