use Rattle.lot_whole.specs.Calls.{FindsOf}
use Rattle.lot_whole.proofs.words.LotWords.try_take_permit.Given as goal

abbrev pub ghosts-load : goal.ghosts-load
ghosts-load g a = record { table = a.pass.table; then = FindsOf a.pass a._about }
