use Rattle.lot_conds.proofs.Turns.{Sweeps}
use Rattle.lot_conds.proofs.words.CondWords.sweep.Given as goal

abbrev pub ghosts-load_both : goal.ghosts-load_both
ghosts-load_both a = record { table = a.pass.table; then = λ n. Sweeps a.pass a.root }
