use Rattle.lot_words.specs.Calls.{CollectedBy}
use Rattle.lot_words.proofs.words.LockWords.collect.Given as goal

abbrev pub ghosts-collect : goal.ghosts-collect
ghosts-collect g a = record { table = a.pass.table; then = CollectedBy g.V.Keeps a.pass }
