use Rattle.lot_whole.specs.Calls.{cond_of}
use Rattle.lot_whole.proofs.Carries.{Sweeps}
use Rattle.lot_whole.proofs.words.LotWords.sweep.Given as goal

abbrev pub ghosts-load_both : goal.ghosts-load_both
ghosts-load_both g a = record { table = a.pass.table; then = λ n. Sweeps a.pass (cond_of a.root) }
