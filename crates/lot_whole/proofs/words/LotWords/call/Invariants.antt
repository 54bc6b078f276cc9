use Rattle.lot_whole.specs.Calls.{cond_of}
use Rattle.lot_whole.proofs.Carries.{CallsSome}
use Rattle.lot_whole.proofs.words.LotWords.call.Given as goal

abbrev pub ghosts-load_both : goal.ghosts-load_both
ghosts-load_both g a = record { table = a.pass.table; then = λ n. CallsSome a.pass (cond_of a.root) a._about.0 a._about.1 }

abbrev pub ghosts-store_both : goal.ghosts-store_both
ghosts-store_both g a = record { table = a.pass.table; then = λ n. CallsSome a.pass (cond_of a.root) a._about.0 a._about.1 }
