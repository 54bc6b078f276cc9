-- Which lock is the hottest: that on which most threads parked.
use Rattle.std.specs.Prelude.{◌≡◌, ℕ, ◌<◌, ◌≤◌, List, length, slice_index, slice_set, EachIndex, MatchOption, Option}

-- as many as on this lock parked on none before it, and more on none behind it; and some did
pub record IsHottest (parked : List ℕ) (lock : ℕ) : Type 0 where
  pub near : lock < length parked
  pub some : 0 < slice_index parked lock
  pub before : (k : ℕ) → k < lock → slice_index parked k < slice_index parked lock
  pub most : EachIndex parked (λ k. slice_index parked k ≤ slice_index parked lock)

-- nobody parked on any
abbrev pub AllAreCold : List ℕ → Type 0
AllAreCold parked = EachIndex parked (λ k. slice_index parked k ≡ 0)

-- the hottest of all, or none where nobody parked
abbrev pub IsHottestOf : List ℕ → Option ℕ → Type 0
IsHottestOf parked found = MatchOption found (AllAreCold parked) (λ lock. IsHottest parked lock)

-- the hottest is taken, so that it counts as one on which nobody parked; or none is, and all stays
abbrev pub TakesHottest : List ℕ → Option ℕ → List ℕ → Type 0
TakesHottest old found new =
    MatchOption found (AllAreCold old × (new ≡ old)) (λ lock. IsHottest old lock × (new ≡ slice_set old lock 0))
