use Rattle.lot_whole.proofs.Carries.{TakesFree}
use Rattle.lot_whole.proofs.words.LotWords.take_free.Given as goal

abbrev pub ghosts-compare_exchange : goal.ghosts-compare_exchange
ghosts-compare_exchange g a = record { table = a.pass.table; then = TakesFree g.V.Keeps a.pass a._about }
