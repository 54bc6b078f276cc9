use Rattle.lot_whole.specs.Calls.{sem_of}
use Rattle.lot_whole.proofs.Seekers.{Clears}
use Rattle.lot_whole.proofs.words.LotWords.clear.Given as goal

abbrev pub ghosts-fetch_and_both : goal.ghosts-fetch_and_both
ghosts-fetch_and_both g a = record { table = a.pass.table; then = λ n. Clears a.pass (sem_of a.root) }
