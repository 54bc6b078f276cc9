-- What holds of every state that a run can reach.
use Rattle.std.specs.Prelude.{◌≡◌, ◌≢◌, ℕ, ◌+◌, ◌<◌, ◌≤◌, ◌==◌, ◌&&◌, ◌⊎◌, ◌↔◌, nat_eq, Bool, true, false, not, List, [], Option, Some}
use Rattle.std.specs.Prelude.{None}
use Rattle.std.specs.List.{Contains, AllPairs, list_any}
use Rattle.lot_events.specs.declared.events.Point.{Point}
use Rattle.lot_events.specs.declared.events.Point.TheVariants.{Wants, Bed, Rest, Sweeps, Seeks}
use Rattle.lot_core.specs.Sums.{total, count_below}
use Rattle.lot_core.specs.Model.{StateView, Semaphores}
use Rattle.lot_core.specs.Steps.{IsThread, IsTrying}
use Rattle.lot_core.specs.Parts.{LockPart, lock_part, CondPart, condition_part, SemaphorePart, semaphore_part, PartWants}

-- each thread but once
abbrev pub IsOnce : List ℕ → Type 0
IsOnce line = AllPairs (λ t u. t ≢ u) line

-- a lock is had by one thread at most, and is held exactly where some thread has it
pub record OneOwner (held : ℕ → Bool) (has : ℕ → ℕ → Bool) : Type 0 where
  pub one : (l t u : ℕ) → has l t ≡ true → has l u ≡ true → t ≡ u
  pub some : (l : ℕ) → (held l ≡ true) ↔ ((t : ℕ) × (has l t ≡ true))

-- a thread in a lock's line means that the lock is parked
abbrev pub SleepersAreMarked : (ℕ → List ℕ) → (ℕ → Bool) → Type 0
SleepersAreMarked line parked = (l t : ℕ) → Contains (line l) t → parked l ≡ true

-- where nobody holds a lock and its line is not empty, some thread is trying to get it
abbrev pub SomeoneIsTrying : StateView → Type 0
SomeoneIsTrying s =
    (l : ℕ) → s.locks.held l ≡ false → s.locks.line l ≢ [] → (t : ℕ) × IsThread s t × IsTrying s t l

-- where a condition's flag is clear and its line is not empty, some thread is about to sweep it
abbrev pub SomeoneSweeps : StateView → Type 0
SomeoneSweeps s =
    (c : ℕ) → s.conds.flag c ≡ false → s.conds.line c ≢ [] → (t : ℕ) × IsThread s t × (s.point t ≡ Sweeps c)

-- the permits of each semaphore that are left, and those that are out, are together its opening number
abbrev pub PermitsConserved : ℕ → (ℕ → ℕ) → Semaphores → Type 0
PermitsConserved threads permits z = (k : ℕ) → z.left k + total threads (z.out k) ≡ permits k

-- a thread in a semaphore's line means that the semaphore is parked
abbrev pub SeekersAreMarked : Semaphores → Type 0
SeekersAreMarked z = SleepersAreMarked z.line z.parked

-- whether thread t is seeking a permit of k, where it seeks one of this semaphore: that is k, and t is
-- not in k's line
abbrev pub is_seeking : Option ℕ → ℕ → List ℕ → ℕ → Bool
is_seeking None k line t = false
is_seeking (Some j) k line t = (j == k) && not (list_any (nat_eq t) line)

-- how many threads are seeking a permit of k
abbrev pub seeker_count : ℕ → SemaphorePart → ℕ → ℕ
seeker_count threads a k = count_below threads (λ t. is_seeking (a.seeks t) k (a.sems.line k) t)

-- where a semaphore's line is not empty, as many threads at least are seeking its permits as are left
abbrev pub PermitsAreSought : ℕ → SemaphorePart → Type 0
PermitsAreSought threads a = (k : ℕ) → a.sems.line k ≢ [] → a.sems.left k ≤ seeker_count threads a k

-- t's point names condition c, with a lock
abbrev pub Waits : (ℕ → Point) → ℕ → ℕ → Type 0
Waits point c t = (l : ℕ) × ((point t ≡ Bed c l) ⊎ (point t ≡ Rest c l))

-- a thread is in at most one line, once, and its point names that line's key; nobody else is in a line
pub record OneLineEach (threads : ℕ) (lock_line cond_line sem_line : ℕ → List ℕ) (point : ℕ → Point) : Type 0 where
  pub lock_once : (l : ℕ) → IsOnce (lock_line l)
  pub cond_once : (c : ℕ) → IsOnce (cond_line c)
  pub sem_once : (k : ℕ) → IsOnce (sem_line k)
  pub wants : (l t : ℕ) → Contains (lock_line l) t → (t < threads) × (point t ≡ Wants l)
  pub waits : (c t : ℕ) → Contains (cond_line c) t → (t < threads) × Waits point c t
  pub seeks : (k t : ℕ) → Contains (sem_line k) t → (t < threads) × (point t ≡ Seeks k)

pub record IsSound (s : StateView) : Type 0 where
  pub one_owner : OneOwner s.locks.held s.locks.has
  pub sleepers_are_marked : SleepersAreMarked s.locks.line s.locks.parked
  pub someone_is_trying : SomeoneIsTrying s
  pub someone_sweeps : SomeoneSweeps s
  pub permits_conserved : PermitsConserved s.threads s.permits s.sems
  pub seekers_are_marked : SeekersAreMarked s.sems
  pub permits_are_sought : PermitsAreSought s.threads (semaphore_part s)
  pub one_line_each : OneLineEach s.threads s.locks.line s.conds.line s.sems.line s.point

-- What of this each part tells alone.

-- of locks: where nobody holds one and its line is not empty, some thread wants it and is not in its line.
-- In the whole that may be a thread that rests; the part alone always has one that wants the lock
pub record IsSoundLockPart (threads : ℕ) (a : LockPart) : Type 0 where
  pub one_owner : OneOwner a.locks.held a.locks.has
  pub sleepers_are_marked : SleepersAreMarked a.locks.line a.locks.parked
  pub someone_is_trying : (l : ℕ) → a.locks.held l ≡ false → a.locks.line l ≢ [] → (t : ℕ) × (t < threads) × PartWants a t l
  pub once : (l : ℕ) → IsOnce (a.locks.line l)
  pub wants : (l t : ℕ) → Contains (a.locks.line l) t → (t < threads) × (a.wants t ≡ Some l)

-- of conditions: a thread is in at most one line, once, and sweeps nothing there
pub record IsSoundCondPart (threads : ℕ) (a : CondPart) : Type 0 where
  pub someone_sweeps : (c : ℕ) → a.conds.flag c ≡ false → a.conds.line c ≢ [] → (t : ℕ) × (t < threads) × (a.sweeps t ≡ Some c)
  pub once : (c : ℕ) → IsOnce (a.conds.line c)
  pub one_line : (c d t : ℕ) → Contains (a.conds.line c) t → Contains (a.conds.line d) t → c ≡ d
  pub waits : (c t : ℕ) → Contains (a.conds.line c) t → (t < threads) × (a.sweeps t ≡ None)

-- of semaphores
pub record IsSoundSemaphorePart (threads : ℕ) (permits : ℕ → ℕ) (a : SemaphorePart) : Type 0 where
  pub permits_conserved : PermitsConserved threads permits a.sems
  pub seekers_are_marked : SeekersAreMarked a.sems
  pub permits_are_sought : PermitsAreSought threads a
  pub once : (k : ℕ) → IsOnce (a.sems.line k)
  pub seeks : (k t : ℕ) → Contains (a.sems.line k) t → (t < threads) × (a.seeks t ≡ Some k)

-- all three parts of a state
pub record ArePartsSound (s : StateView) : Type 0 where
  pub locks : IsSoundLockPart s.threads (lock_part s)
  pub conds : IsSoundCondPart s.threads (condition_part s)
  pub sems : IsSoundSemaphorePart s.threads s.permits (semaphore_part s)

-- The same, key by key.

abbrev pub IsMarked : StateView → ℕ → Type 0
IsMarked s l = s.locks.line l ≢ [] → s.locks.parked l ≡ true

abbrev pub IsSought : StateView → ℕ → Type 0
IsSought s l = s.locks.held l ≡ false → s.locks.line l ≢ [] → (t : ℕ) × IsThread s t × IsTrying s t l

abbrev pub IsSwept : StateView → ℕ → Type 0
IsSwept s c = s.conds.flag c ≡ false → s.conds.line c ≢ [] → (t : ℕ) × IsThread s t × (s.point t ≡ Sweeps c)

abbrev pub AllWant : StateView → ℕ → Type 0
AllWant s l = (t : ℕ) → Contains (s.locks.line l) t → s.point t ≡ Wants l

abbrev pub AllWait : StateView → ℕ → Type 0
AllWait s c = (t : ℕ) → Contains (s.conds.line c) t → Waits s.point c t

abbrev pub IsMarkedSemaphore : StateView → ℕ → Type 0
IsMarkedSemaphore s k = s.sems.line k ≢ [] → s.sems.parked k ≡ true

abbrev pub IsSoughtSemaphore : StateView → ℕ → Type 0
IsSoughtSemaphore s k = s.sems.line k ≢ [] → s.sems.left k ≤ seeker_count s.threads (semaphore_part s) k

abbrev pub AllSeek : StateView → ℕ → Type 0
AllSeek s k = (t : ℕ) → Contains (s.sems.line k) t → s.point t ≡ Seeks k

abbrev pub IsSoundLock : StateView → ℕ → Type 0
IsSoundLock s l = IsMarked s l × IsSought s l × IsOnce (s.locks.line l) × AllWant s l

abbrev pub IsSoundCond : StateView → ℕ → Type 0
IsSoundCond s c = IsSwept s c × IsOnce (s.conds.line c) × AllWait s c

abbrev pub IsSoundSemaphore : StateView → ℕ → Type 0
IsSoundSemaphore s k = IsMarkedSemaphore s k × IsSoughtSemaphore s k × IsOnce (s.sems.line k) × AllSeek s k
