-- Numbers within the sum of their list.
use Rattle.std.proofs.Common.{◌≢◌, ℕ, ◌+◌, ◌≤◌, List, get_or, arith}
use Rattle.std.specs.List.{sum}
use Rattle.std.proofs.lemmas.Grind.{common_steps}
use Rattle.std.proofs.lemmas.List.{get_or_past, get_or-set_other}
use Rattle.std.proofs.lemmas.List.Sums.{sum_by-set}

pub number_within : (row : List ℕ) (j : ℕ) → get_or row j 0 ≤ sum row
number_within row j = grind (arith, common_steps)

pub two_within : (row : List ℕ) (i j : ℕ) → i ≢ j → get_or row i 0 + get_or row j 0 ≤ sum row
two_within row i j apart = grind (arith, number_within, sum_by-set (λ y. y) row j 0 0, get_or-set_other row j i 0 0, get_or_past row j 0)
