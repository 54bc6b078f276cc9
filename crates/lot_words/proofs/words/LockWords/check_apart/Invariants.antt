use Rattle.std.proofs.Common.{ℕ}
use Rattle.lot_words.specs.World.{Holds}
use Rattle.lot_words.proofs.words.LockWords.check_apart.Given as goal

abbrev pub ghosts-check_two : goal.ghosts-check_two
ghosts-check_two g a = record { fact = (l : ℕ) → Holds a.first.own l → ¬ Holds a.second.own l }
