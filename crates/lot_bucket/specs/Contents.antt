use Rattle.std.specs.Prelude.{ℕ, Bool, false, List, [], Option}

-- what a bucket is seen as
pub record Contents (R : Type 0) : Type 0 where
  -- how many threads can wait here at a time
  pub room : ℕ
  -- each key with its root
  pub places : List (ℕ × Option R)
  -- who waits, and on which key
  pub queue : List (ℕ × ℕ)
  -- a closed bucket was left for one of a larger table, or is not in use yet
  pub opened : Bool
  -- it is time to be fair after this moment
  pub next_fair : ℕ

-- a closed bucket with no keys and no room
abbrev pub hollow : {R : Type 0} → Contents R
hollow = record { room = 0; places = []; queue = []; opened = false; next_fair = 0 }
