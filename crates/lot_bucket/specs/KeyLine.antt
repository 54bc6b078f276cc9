use Rattle.std.specs.Prelude.{ℕ, List}

-- what a root is seen as
pub record KeyLine : Type 0 where
  -- which key it is the root of
  pub key : ℕ
  -- the threads that wait on the key, first come first
  pub line : List ℕ
  -- the letters that are still to be posted, as pairs of thread and token
  pub owes : List (ℕ × ℕ)
