-- Keys in order: of each two locks, semaphores or conditions it is said whether who has the one may wait for the other,
-- and whoever is to wait for one has only keys with which that is allowed.
use Rattle.std.specs.Prelude.{◌≡◌, ◌≢◌, ℕ, ◌+◌, ◌<◌, ◌≤◌, ◌⊎◌, true, List, [], ◌∷◌}
use Rattle.lot_events.specs.declared.events.Point.{Point}
use Rattle.lot_events.specs.declared.events.Point.TheVariants.{Calm, Wants, Bed, Rest, Sweeps, Seeks}
use Rattle.lot_events.specs.declared.events.Event.{Event}
use Rattle.lot_events.specs.declared.events.Event.TheVariants.{Take, Enlist, SemTake}
use Rattle.lot_core.specs.Model.{StateView}
use Rattle.lot_core.specs.Steps.{Allowed, after}

-- what one thread has: locks, and so many permits of each semaphore
pub record Keys : Type 1 where
  pub locks : ℕ → Type 0
  pub permits : ℕ → ℕ

abbrev pub held_by : StateView → ℕ → Keys
held_by s t = record { locks = λ l. s.locks.has l t ≡ true; permits = λ k. s.sems.out k t }

-- the lock, or a permit of the semaphore, is among it
abbrev pub HasKey : Keys → ℕ → Type 0
HasKey h k = h.locks k ⊎ (1 ≤ h.permits k)

-- and is another than lock l
abbrev pub HasBeside : Keys → ℕ → ℕ → Type 0
HasBeside h l k = (h.locks k × (k ≢ l)) ⊎ (1 ≤ h.permits k)

-- who has all this may wait for the key k: `above j k` says that k lies above j
abbrev pub AllBelow : (ℕ → ℕ → Type 0) → Keys → ℕ → Type 0
AllBelow above h k = (j : ℕ) → HasKey h j → above j k

-- who has all this but lock l may
abbrev pub OthersBelow : (ℕ → ℕ → Type 0) → Keys → ℕ → ℕ → Type 0
OthersBelow above h l k = (j : ℕ) → HasBeside h l j → above j k

-- and may wait with lock l for a notification of c
abbrev pub MayWait : (ℕ → ℕ → Type 0) → Keys → ℕ → ℕ → Type 0
MayWait above h c l = OthersBelow above h l l × OthersBelow above h l c

-- what lies above has the higher level
abbrev pub Rises : (ℕ → ℕ → Type 0) → (ℕ → ℕ) → Type 0
Rises above level = (j k : ℕ) → above j k → level j < level k

-- the discipline: who is to wait for a lock, for a permit, or with lock l for a notification of c, has only keys below
abbrev pub KeepsOrder : (ℕ → ℕ → Type 0) → StateView → Event → Type 0
KeepsOrder above s (Take t l) = s.locks.held l ≡ true → AllBelow above (held_by s t) l
KeepsOrder above s (SemTake t k) = s.sems.left k ≡ 0 → AllBelow above (held_by s t) k
KeepsOrder above s (Enlist t c l) = MayWait above (held_by s t) c l
KeepsOrder above s _ = Unit {0}

-- what a thread has, and where it stands, are in order, where there are so many keys
abbrev pub InOrder : (ℕ → ℕ → Type 0) → ℕ → Keys → Point → Type 0
InOrder above keys h Calm = Unit {0}
InOrder above keys h (Wants l) = (l < keys) × AllBelow above h l
InOrder above keys h (Bed c l) = (l < keys) × MayWait above h c l
InOrder above keys h (Rest c l) = (l < keys) × AllBelow above h l × AllBelow above h c
InOrder above keys h (Sweeps c) = Unit {0}
InOrder above keys h (Seeks k) = (k < keys) × AllBelow above h k

abbrev pub key_count : StateView → ℕ
key_count s = s.lock_count + s.cond_count + s.sem_count

-- a state is in order where each thread is
abbrev pub IsOrdered : (ℕ → ℕ → Type 0) → StateView → Type 0
IsOrdered above s = (t : ℕ) → InOrder above (key_count s) (held_by s t) (s.point t)

-- a run each of whose events keeps the order
abbrev pub OrderlyRun : (ℕ → ℕ → Type 0) → StateView → List Event → Type 0
OrderlyRun above s [] = Unit {0}
OrderlyRun above s (e ∷ events) = Allowed s e × KeepsOrder above s e × OrderlyRun above (after s e) events
