use Rattle.std.proofs.Common.{true, false}
use Rattle.lot_whole.specs.Calls.{lock_of}
use Rattle.lot_whole.proofs.Carries.{Passes}
use Rattle.lot_whole.proofs.words.LotWords.pass_on.Given as goal

abbrev pub ghosts-load_both : goal.ghosts-load_both
ghosts-load_both g a = record { table = a.pass.table; then = λ n. Passes a.pass (lock_of a.root) true a._about }

abbrev pub ghosts-store_both : goal.ghosts-store_both
ghosts-store_both g a = record { table = a.pass.table; then = λ n. Passes a.pass (lock_of a.root) false a._about }
