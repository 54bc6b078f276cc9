-- Lists read as functions of the place.
use Rattle.std.specs.Prelude.{ℕ, ◌-◌, List, slice_index_or, nat_lt, if◌then◌else◌}

-- what f says of each
abbrev pub told : {X Y : Type 0} → (X → Y) → (ℕ → X) → (ℕ → Y)
told f row = λ k. f (row k)

-- the list's elements by their places, and `none` at any other number
unfoldable pub row : {X : Type 0} → X → List X → (ℕ → X)
row none xs = λ k. slice_index_or xs k none

-- the same, with the places counted from `low`
unfoldable pub row_from : {X : Type 0} → X → ℕ → List X → (ℕ → X)
row_from none low xs = λ k. if nat_lt k low then none else slice_index_or xs (k - low) none
