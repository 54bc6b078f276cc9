use Rattle.lot_whole.specs.Calls.{sem_of}
use Rattle.lot_whole.proofs.Seekers.{ParksSem}
use Rattle.lot_whole.proofs.words.LotWords.park_permit.Given as goal

abbrev pub ghosts-load_both : goal.ghosts-load_both
ghosts-load_both g a = record { table = a.pass.table; then = ParksSem a.pass (sem_of a.root) }
