-- Seats whose views are lists of rights. A right has a number, and each number is in one place at most.
use Rattle.std.specs.Prelude.{◌≡◌, ℕ, ◌+◌, ◌≤◌, ◌==◌, cond, List, [], ◌∷◌}
use mathlib.Core.Option.{some}
use lib.ListN.{get_elem?}

module _ {R : Type 0} (number : R → ℕ) where
  -- how many of the rights have the number i
  abbrev pub times : ℕ → List R → ℕ
  times i [] = 0
  times i (r ∷ rs) = cond (number r == i) 1 0 + times i rs

  abbrev pub times_in : ℕ → List (List R) → ℕ
  times_in i [] = 0
  times_in i (v ∷ vs) = times i v + times_in i vs

module _ {R : Type 0} (number : R → ℕ) (Fact : R → Type 0) where
  abbrev pub Each : List R → Type 0
  Each [] = Unit {0}
  Each (r ∷ rs) = Fact r × Each rs

  -- no right is in two places, and each is what the fact says
  pub record Seated (views : List (List R)) : Type 0 where
    pub once : (i : ℕ) → times_in number i views ≤ 1
    pub named : (j : ℕ) (v : List R) → get_elem? views j ≡ some v → Each v
