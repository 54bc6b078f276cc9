-- A fixed row of places: some are in use, in an order of their own, and the others are free.
use Rattle.std.specs.Prelude.{◌≡◌, ℕ, zero, suc, ◌+◌, ◌-◌, ◌≤◌, ◌==◌, nat_lt, if◌then◌else◌, List, [], ◌∷◌, ◌++◌, length, take, slice_index}
use Rattle.lot_places.specs.declared.links.Cursor.{Cursor}

-- what a row is seen as
pub record Row : Type 0 where
  -- how many places there are; they are called 0, 1, and so on
  pub room : ℕ
  -- those in use, in their order
  pub used : List ℕ
  -- the free ones, the next to be used first
  pub free : List ℕ

-- how often a place stands in a list
abbrev pub times : ℕ → List ℕ → ℕ
times p [] = 0
times p (q ∷ places) = (if q == p then 1 else 0) + times p places

-- each place is once in use or once free
abbrev pub IsComplete : Row → Type 0
IsComplete row = (p : ℕ) → times p (row.used ++ row.free) ≡ (if nat_lt p row.room then 1 else 0)

-- the last of a list of places, or start where there is none
abbrev pub last_of : ℕ → List ℕ → ℕ
last_of start [] = start
last_of start (p ∷ places) = last_of p places

-- so many places, each the next of the one before, from p on
abbrev pub way_from : List ℕ → ℕ → ℕ → List ℕ
way_from next zero p = []
way_from next (suc n) p = p ∷ way_from next n (slice_index next p)

-- the row that such links make
abbrev pub row_of : List ℕ → ℕ → ℕ → ℕ → Row
row_of next room len free = record { room = room; used = way_from next len (slice_index next room); free = way_from next (room - len) free }

-- the links hold together
pub record IsLinked (next : List ℕ) (room len last free : ℕ) : Type 0 where
  -- behind the places lies one entry more, unless there is no place
  pub size : room ≡ length next - 1
  pub fits : len ≤ room
  pub complete : IsComplete (row_of next room len free)
  pub ends : last ≡ last_of room (row_of next room len free).used

-- the cursor stands among the places in use, behind the first passed of them
pub record StandsIn (row : Row) (cursor : Cursor) : Type 0 where
  pub within : cursor.passed ≤ length row.used
  pub before : cursor.before ≡ last_of row.room (take cursor.passed row.used)
