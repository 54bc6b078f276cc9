use Rattle.lot_whole.specs.Calls.{sem_of}
use Rattle.lot_whole.proofs.Seekers.{PassesPermit}
use Rattle.lot_whole.proofs.words.LotWords.pass_permit.Given as goal

abbrev pub ghosts-fetch_add_both : goal.ghosts-fetch_add_both
ghosts-fetch_add_both g a = record { table = a.pass.table; then = λ n. PassesPermit a.pass (sem_of a.root) a._about }
