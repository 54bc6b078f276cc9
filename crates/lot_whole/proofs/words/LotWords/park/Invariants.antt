use Rattle.lot_whole.specs.Calls.{lock_of}
use Rattle.lot_whole.proofs.Carries.{Parks}
use Rattle.lot_whole.proofs.words.LotWords.park.Given as goal

abbrev pub ghosts-load_both : goal.ghosts-load_both
ghosts-load_both g a = record { table = a.pass.table; then = Parks a.pass (lock_of a.root) }
