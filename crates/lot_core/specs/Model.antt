-- A state of the model.
use Rattle.std.specs.Prelude.{◌==◌, ℕ, ◌+◌, Bool, false, if◌then◌else◌, List, [], length}
use Rattle.lot_events.specs.declared.events.Point.{Point}
use Rattle.lot_events.specs.declared.events.Point.TheVariants.{Calm}
use Rattle.lot_core.specs.Rows.{row_from}

-- a function with one value changed
abbrev pub put : {X : Type 0} → (ℕ → X) → ℕ → X → (ℕ → X)
put f k v = λ i. if i == k then v else f i

-- the locks: of each its two bits and its line of sleepers; `has l t` says that thread t has lock l
pub record Locks : Type 0 where
  pub held : ℕ → Bool
  pub parked : ℕ → Bool
  pub line : ℕ → List ℕ
  pub has : ℕ → ℕ → Bool

-- the conditions: of each its flag and its line of sleepers
pub record Conds : Type 0 where
  pub flag : ℕ → Bool
  pub line : ℕ → List ℕ

-- the semaphores: of each the permits that are left, its parked bit and its line of sleepers;
-- `out k t` permits of k are out with thread t
pub record Semaphores : Type 0 where
  pub left : ℕ → ℕ
  pub parked : ℕ → Bool
  pub line : ℕ → List ℕ
  pub out : ℕ → ℕ → ℕ

-- nobody is queued, and all these permits are left
abbrev pub none_taken : (ℕ → ℕ) → Semaphores
none_taken permits = record { left = permits; parked = λ k. false; line = λ k. []; out = λ k t. 0 }

-- a state: how many threads, locks, conditions and semaphores there are and how many permits each
-- semaphore was opened with, what each lock, condition and semaphore is, and where each thread stands
pub record StateView : Type 0 where
  pub threads : ℕ
  pub lock_count : ℕ
  pub cond_count : ℕ
  pub sem_count : ℕ
  pub permits : ℕ → ℕ
  pub locks : Locks
  pub conds : Conds
  pub sems : Semaphores
  pub point : ℕ → Point

-- all bits and flags clear, all lines and `has` empty, all permits left, all threads calm
abbrev pub opening_with : ℕ → ℕ → ℕ → List ℕ → StateView
opening_with threads lock_count cond_count permits =
    record {
      threads = threads;
      lock_count = lock_count;
      cond_count = cond_count;
      sem_count = length permits;
      permits = row_from 0 (lock_count + cond_count) permits;
      locks = record { held = λ l. false; parked = λ l. false; line = λ l. []; has = λ l t. false };
      conds = record { flag = λ c. false; line = λ c. [] };
      sems = none_taken (row_from 0 (lock_count + cond_count) permits);
      point = λ t. Calm;
    }

-- the same without semaphores
abbrev pub opening : ℕ → ℕ → ℕ → StateView
opening threads lock_count cond_count = opening_with threads lock_count cond_count []
