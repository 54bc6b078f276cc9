use Rattle.lot_conds.proofs.Turns.{Looks}
use Rattle.lot_conds.proofs.words.CondWords.look.Given as goal

abbrev pub ghosts-load : goal.ghosts-load
ghosts-load a = record { table = a.pass.table; then = Looks a.pass a._about }
