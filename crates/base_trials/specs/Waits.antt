-- Of trials on a lot of two locks and one condition; and what one leaves of waiters that were lent to a thread.
use Rattle.std.specs.Prelude.{◌≡◌, ℕ, Option, IsSomeAnd}

-- the locks have the numbers 0 and 1, and the condition has the number 2
abbrev pub IsSmall : ℕ → ℕ → ℕ → Type 0
IsSmall locks conds first_sem = (locks ≡ 2) × (conds ≡ 1) × (first_sem ≡ 3)

-- and the parking lot is for so many threads, on these keys
abbrev pub IsSmallLot : ℕ → ℕ → ℕ → ℕ → ℕ → ℕ → Type 0
IsSmallLot most locks conds first_sem threads keys = IsSmall locks conds first_sem × (threads ≡ most) × (keys ≡ 3)

-- what lay there went through calls that count it so, and lies there again
abbrev pub EndsThere : {A : Type 0} → (A → A) → Option A → Option A → Type 0
EndsThere counted before after = IsSomeAnd before (λ p. IsSomeAnd after (λ q. q ≡ counted p))
