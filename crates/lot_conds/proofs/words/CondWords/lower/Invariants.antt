use Rattle.lot_conds.proofs.Turns.{Lowers}
use Rattle.lot_conds.proofs.words.CondWords.lower.Given as goal

abbrev pub ghosts-store : goal.ghosts-store
ghosts-store a = record { table = a.pass.table; then = λ n. Lowers a.pass a._about }
