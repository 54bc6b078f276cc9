use Rattle.lot_conds.proofs.Turns.{Calls}
use Rattle.lot_conds.proofs.words.CondWords.call.Given as goal

abbrev pub ghosts-load_both : goal.ghosts-load_both
ghosts-load_both a = record { table = a.pass.table; then = λ n. Calls a.pass a.root a._about.0 a._about.1 }

abbrev pub ghosts-store_both : goal.ghosts-store_both
ghosts-store_both a = record { table = a.pass.table; then = λ n. Calls a.pass a.root a._about.0 a._about.1 }
