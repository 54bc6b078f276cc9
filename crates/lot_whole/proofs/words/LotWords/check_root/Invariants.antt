use Rattle.lot_rights.specs.Steps.{Moment}
use Rattle.lot_whole.specs.Rule.{meaning}
use Rattle.lot_whole.proofs.words.LotWords.check_root.Given as goal

abbrev pub ghosts-check_root : goal.ghosts-check_root
ghosts-check_root g a = record { fact = Moment (meaning g.V.Keeps a.self.now.key) a.root }
