-- The ledger of a lot's conditions: what all its passes counted, modulo 2^64.
use Rattle.std.specs.Prelude.{◌≡◌, ℕ, ◌+◌, ◌<◌, List, length, replicate, slice_index, sum_by}
use Rattle.lot_waits.specs.Counts.{CountsView, wrap}
use Rattle.lot_waits.specs.declared.tallies.Tallies.{Tallies}

-- what was counted at a key, by one of the lists
abbrev pub called_at : ℕ → CountsView → ℕ
called_at c q = slice_index q.called c

abbrev pub woken_at : ℕ → CountsView → ℕ
woken_at c q = slice_index q.woken c

-- the sums over the passes, by condition
pub record AreSums (locks conds : ℕ) (count_at : ℕ → CountsView → ℕ) (waiters : List CountsView) (sums : List ℕ) : Type 0 where
  pub long : length sums ≡ conds
  pub each : (i : ℕ) → i < conds → slice_index sums i ≡ wrap (sum_by (count_at (locks + i)) waiters)

-- of both numbers
pub record AreBothSums (locks conds : ℕ) (waiters : List CountsView) (sums : Tallies) : Type 0 where
  pub called_sums : AreSums locks conds called_at waiters sums.called.items
  pub woken_sums : AreSums locks conds woken_at waiters sums.woken.items

-- in each condition as many waits have ended as sleepers were taken from its line
abbrev pub IsBalanced : List CountsView → Type 0
IsBalanced waiters = (c : ℕ) → sum_by (called_at c) waiters ≡ sum_by (woken_at c) waiters

-- the ledger of these passes: the sums, and the two lists are equal
pub record IsLedger (locks conds : ℕ) (waiters : List CountsView) (called woken : List ℕ) : Type 0 where
  pub called_sums : AreSums locks conds called_at waiters called
  pub woken_sums : AreSums locks conds woken_at waiters woken
  pub balanced : called ≡ woken

-- the numbers, to each of which another was added
pub record AreAdded (before others after : List ℕ) : Type 0 where
  pub long : length after ≡ length before
  pub each : (i : ℕ) → i < length before → slice_index after i ≡ wrap (slice_index before i + slice_index others i)

-- nothing is counted yet
abbrev pub AreZeros : ℕ → Tallies → Type 0
AreZeros conds t = (t.called.items ≡ replicate conds 0) × (t.woken.items ≡ replicate conds 0)
