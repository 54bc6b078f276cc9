use Rattle.lot_whole.specs.Calls.{cond_of}
use Rattle.lot_whole.proofs.Carries.{Enlists}
use Rattle.lot_whole.proofs.words.LotWords.enlist.Given as goal

abbrev pub ghosts-store_both : goal.ghosts-store_both
ghosts-store_both g a = record { table = a.pass.table; then = λ n. Enlists a.pass (cond_of a.root) a._about }
