use Rattle.lot_whole.proofs.Letters.{CollectedHere}
use Rattle.lot_whole.proofs.words.LotWords.collect.Given as goal

abbrev pub ghosts-collect : goal.ghosts-collect
ghosts-collect g a = record { table = a.pass.table; then = CollectedHere g.V.Keeps a.pass }
