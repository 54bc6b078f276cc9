use Rattle.lot_whole.specs.Rule.{size_of}
use Rattle.lot_whole.proofs.Twos.{AreApart}
use Rattle.lot_whole.proofs.words.LotWords.check_apart.Given as goal

abbrev pub ghosts-check_two : goal.ghosts-check_two
ghosts-check_two g a = record { fact = AreApart g.V.Keeps (size_of a.self.now.key) a.first a.second }
