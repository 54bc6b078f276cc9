use Rattle.std.specs.Prelude.{ℕ, List, map, slice_index_or}

-- what a queue is seen as: how many threads it has room for, and who waits
pub record Waiting : Type 0 where
  pub room : ℕ
  pub pairs : List (ℕ × ℕ)

-- the pairs that lie at the places of a list, in its order
abbrev pub lying_at : List (ℕ × ℕ) → List ℕ → List (ℕ × ℕ)
lying_at pairs places = map (λ p. slice_index_or pairs p (0, 0)) places
