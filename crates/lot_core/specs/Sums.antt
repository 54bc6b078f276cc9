-- Sums over the first numbers.
use Rattle.std.specs.Prelude.{ℕ, zero, suc, ◌+◌, Bool}
pub use Rattle.lot_events.specs.Spelling.{bit}

-- the sum of f over the first n numbers
abbrev pub total : ℕ → (ℕ → ℕ) → ℕ
total zero f = 0
total (suc n) f = total n f + f n

-- how many of the first n numbers pass the test
abbrev pub count_below : ℕ → (ℕ → Bool) → ℕ
count_below n p = total n (λ k. bit (p k))
