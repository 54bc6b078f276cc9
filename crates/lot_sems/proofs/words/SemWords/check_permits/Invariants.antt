use Rattle.std.proofs.Common.{ℕ, ◌+◌, ◌≤◌, get_or}
use Rattle.lot_sems.specs.World.{numbers, permits_of}
use Rattle.lot_sems.proofs.words.SemWords.check_permits.Given as goal

abbrev pub ghosts-check_two : goal.ghosts-check_two
ghosts-check_two a =
    record { fact = (k : ℕ) → get_or a.first.own.out k 0 + get_or a.second.own.out k 0 ≤ permits_of (numbers a.self.now.key) k }
