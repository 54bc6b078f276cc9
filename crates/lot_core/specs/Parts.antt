-- The three parts of a state: what the words of locks tell of it, what those of conditions tell, and
-- what those of semaphores tell.
use Rattle.std.specs.Prelude.{◌≡◌, ◌↔◌, ℕ, ◌+◌, ◌<◌, ◌≤◌, ◌&&◌, ◌⊎◌, true, false, not, if◌then◌else◌, List, [], ◌∷◌, length, Option, Some}
use Rattle.std.specs.Prelude.{None}
use Rattle.std.specs.List.{Contains}
use Rattle.lot_events.specs.declared.events.Point.{Point}
use Rattle.lot_events.specs.declared.events.Point.TheVariants.{Calm, Wants, Rest, Sweeps, Seeks}
use Rattle.lot_events.specs.declared.events.Event.{Event}
use Rattle.lot_events.specs.declared.events.Event.TheVariants.{Try, Take, Mark, Park, Free, Pass, Enlist, Look, Call, Lower, Sweep, SemTake}
use Rattle.lot_events.specs.declared.events.Event.TheVariants.{SemMark, SemPark, SemFree, SemPass, SemClear}
use Rattle.lot_events.specs.declared.events.Seen.{Seen}
use Rattle.lot_events.specs.declared.events.Seen.TheVariants.{Bool as Saw, Done, Sleeper, Count}
use Rattle.lot_core.specs.Model.{StateView, Locks, Conds, Semaphores, put}
use Rattle.lot_core.specs.Steps.{MayLetGo, SaysMore, SaysMoreBehind, IsCallCount, Allowed, after, seen, first}
use Rattle.lot_core.specs.Steps.{got, marked, queued, freed, passed, enlisted, called, dequeued_count, lowered, swept}
use Rattle.lot_core.specs.Steps.{none_left, permit_taken, with_sem_parked, seeker_queued, permit_freed, permit_passed}

-- the lock part of a state: the locks, and the lock that each thread wants
pub record LockPart : Type 0 where
  pub locks : Locks
  pub wants : ℕ → Option ℕ

-- the condition part: the conditions, and the condition that each thread sweeps
pub record CondPart : Type 0 where
  pub conds : Conds
  pub sweeps : ℕ → Option ℕ

-- the semaphore part: the semaphores, and the semaphore that each thread seeks a permit of
pub record SemaphorePart : Type 0 where
  pub sems : Semaphores
  pub seeks : ℕ → Option ℕ

abbrev pub wanted : Point → Option ℕ
wanted (Wants l) = Some l
wanted _ = None

abbrev pub swept_by : Point → Option ℕ
swept_by (Sweeps c) = Some c
swept_by _ = None

abbrev pub sought : Point → Option ℕ
sought (Seeks k) = Some k
sought _ = None

abbrev pub lock_part : StateView → LockPart
lock_part s = record { locks = s.locks; wants = λ t. wanted (s.point t) }

abbrev pub condition_part : StateView → CondPart
condition_part s = record { conds = s.conds; sweeps = λ t. swept_by (s.point t) }

abbrev pub semaphore_part : StateView → SemaphorePart
semaphore_part s = record { sems = s.sems; seeks = λ t. sought (s.point t) }

-- so far as the lock part tells, t is trying to get l: it wants l and is not in l's line
abbrev pub PartWants : LockPart → ℕ → ℕ → Type 0
PartWants a t l = (a.wants t ≡ Some l) × (¬ Contains (a.locks.line l) t)

-- and may be trying: it does so, or wants nothing
abbrev pub MayTry : LockPart → ℕ → ℕ → Type 0
MayTry a t l = (a.wants t ≡ None) ⊎ PartWants a t l

-- where an event is allowed, so far as the lock part tells
abbrev pub LockAllowed : ℕ → ℕ → LockPart → Event → Type 0
LockAllowed threads locks a (Try t l) = (t < threads) × (l < locks) × (a.wants t ≡ None)
LockAllowed threads locks a (Take t l) = (t < threads) × (l < locks) × MayTry a t l
LockAllowed threads locks a (Mark t l) = (t < threads) × (l < locks) × MayTry a t l × (a.locks.held l ≡ true)
LockAllowed threads locks a (Park t l) =
    (t < threads) × (l < locks) × (a.wants t ≡ Some l) × (¬ Contains (a.locks.line l) t)
LockAllowed threads locks a (Free t l) =
    (t < threads) × (l < locks) × (a.locks.has l t ≡ true) × (a.wants t ≡ None)
LockAllowed threads locks a (Pass t l fair more) =
    (t < threads) × (l < locks) × (a.locks.has l t ≡ true) × (a.locks.parked l ≡ true) × (a.wants t ≡ None)
    × (fair ≡ false → SaysMore (a.locks.line l) more)
LockAllowed threads locks a _ = ⊥

-- who gets the lock wants it no more
abbrev pub served : (ℕ → Option ℕ) → List ℕ → (ℕ → Option ℕ)
served wants [] = wants
served wants (u ∷ rest) = put wants u None

-- an event's change of the lock part
abbrev pub lock_part_after : LockPart → Event → LockPart
lock_part_after a (Try t l) = record a { locks = got a.locks t l }
lock_part_after a (Take t l) =
    record a { locks = got a.locks t l; wants = put a.wants t (if a.locks.held l then Some l else None) }
lock_part_after a (Mark t l) = record a { locks = marked a.locks l }
lock_part_after a (Park t l) = record a { locks = queued a.locks t l }
lock_part_after a (Free t l) = record a { locks = freed a.locks t l }
lock_part_after a (Pass t l fair more) =
    record a { locks = passed a.locks t l fair more; wants = if fair then served a.wants (a.locks.line l) else a.wants }
lock_part_after a _ = a

-- what is seen of a lock event; of the others the lock part tells nothing
abbrev pub lock_seen : LockPart → Event → Seen
lock_seen a (Try t l) = Saw (not (a.locks.held l))
lock_seen a (Take t l) = Saw (not (a.locks.held l))
lock_seen a (Mark t l) = Done
lock_seen a (Park t l) = Saw (a.locks.held l && a.locks.parked l)
lock_seen a (Free t l) = Saw (not (a.locks.parked l))
lock_seen a (Pass t l fair more) = Sleeper (first (a.locks.line l))
lock_seen a _ = Done

-- lock part a becomes b by a lock event of which this is seen
abbrev pub LockStep : ℕ → ℕ → LockPart → Event → Seen → LockPart → Type 0
LockStep threads locks a e saw b =
    LockAllowed threads locks a e × (saw ≡ lock_seen a e) × (b ≡ lock_part_after a e)

-- c is the number of a condition, which follow the locks
abbrev pub IsAmongConds : ℕ → ℕ → ℕ → Type 0
IsAmongConds locks conds c = (locks ≤ c) × (c < locks + conds)

-- so far as the condition part tells, t is calm: it sweeps nothing, and is in no condition's line
abbrev pub IsCalmIn : CondPart → ℕ → Type 0
IsCalmIn a t = (a.sweeps t ≡ None) × ((c : ℕ) → ¬ Contains (a.conds.line c) t)

-- where an event is allowed, so far as the condition part tells
abbrev pub CondAllowed : ℕ → ℕ → ℕ → CondPart → Event → Type 0
CondAllowed threads locks conds a (Enlist t c l) =
    (t < threads) × IsAmongConds locks conds c × (l < locks) × IsCalmIn a t
CondAllowed threads locks conds a (Look t c) =
    (t < threads) × IsAmongConds locks conds c × IsCalmIn a t
CondAllowed threads locks conds a (Call t c n more) =
    (t < threads) × IsAmongConds locks conds c × IsCalmIn a t × IsCallCount n
    × SaysMoreBehind n (a.conds.line c) more
CondAllowed threads locks conds a (Lower t c) =
    (t < threads) × IsAmongConds locks conds c × IsCalmIn a t
CondAllowed threads locks conds a (Sweep t c) =
    (t < threads) × IsAmongConds locks conds c × (a.sweeps t ≡ Some c)
CondAllowed threads locks conds a _ = ⊥

-- an event's change of the condition part
abbrev pub cond_part_after : CondPart → Event → CondPart
cond_part_after a (Enlist t c l) = record a { conds = enlisted a.conds t c }
cond_part_after a (Look t c) = a
cond_part_after a (Call t c n more) = record a { conds = called a.conds c n more }
cond_part_after a (Lower t c) = record a { conds = lowered a.conds c; sweeps = put a.sweeps t (Some c) }
cond_part_after a (Sweep t c) = record a { conds = swept a.conds c; sweeps = put a.sweeps t None }
cond_part_after a _ = a

-- what is seen of a condition event; of the others the condition part tells nothing
abbrev pub cond_seen : CondPart → Event → Seen
cond_seen a (Enlist t c l) = Done
cond_seen a (Look t c) = Saw (a.conds.flag c)
cond_seen a (Call t c n more) = Count (dequeued_count n (a.conds.line c))
cond_seen a (Lower t c) = Done
cond_seen a (Sweep t c) = Count (length (a.conds.line c))
cond_seen a _ = Done

-- condition part a becomes b by a condition event of which this is seen
abbrev pub CondStep : ℕ → ℕ → ℕ → CondPart → Event → Seen → CondPart → Type 0
CondStep threads locks conds a e saw b =
    CondAllowed threads locks conds a e × (saw ≡ cond_seen a e) × (b ≡ cond_part_after a e)

-- k is the number of a semaphore, which follow the conditions; `first_sem` is the first
abbrev pub IsAmongSemaphores : ℕ → ℕ → ℕ → Type 0
IsAmongSemaphores first_sem sems k = (first_sem ≤ k) × (k < first_sem + sems)

-- so far as the semaphore part tells, t is seeking a permit of k: it seeks one of k and is not in k's
-- line
abbrev pub PartSeeks : SemaphorePart → ℕ → ℕ → Type 0
PartSeeks a t k = (a.seeks t ≡ Some k) × (¬ Contains (a.sems.line k) t)

-- where an event is allowed, so far as the semaphore part tells
abbrev pub SemaphoreAllowed : ℕ → ℕ → ℕ → SemaphorePart → Event → Type 0
SemaphoreAllowed threads first_sem sems a (SemTake t k) =
    (t < threads) × IsAmongSemaphores first_sem sems k × ((a.seeks t ≡ None) ⊎ PartSeeks a t k)
SemaphoreAllowed threads first_sem sems a (SemMark t k) =
    (t < threads) × IsAmongSemaphores first_sem sems k × PartSeeks a t k × (a.sems.left k ≡ 0)
SemaphoreAllowed threads first_sem sems a (SemPark t k) =
    (t < threads) × IsAmongSemaphores first_sem sems k × PartSeeks a t k
SemaphoreAllowed threads first_sem sems a (SemFree t k) =
    (t < threads) × IsAmongSemaphores first_sem sems k × (a.seeks t ≡ None) × (1 ≤ a.sems.out k t)
SemaphoreAllowed threads first_sem sems a (SemPass t k more) =
    (t < threads) × IsAmongSemaphores first_sem sems k × (a.seeks t ≡ None) × (1 ≤ a.sems.out k t)
    × SaysMore (a.sems.line k) more
SemaphoreAllowed threads first_sem sems a (SemClear t k) =
    (t < threads) × IsAmongSemaphores first_sem sems k × (a.seeks t ≡ None) × (a.sems.line k ≡ [])
SemaphoreAllowed threads first_sem sems a _ = ⊥

-- an event's change of the semaphore part
abbrev pub semaphore_part_after : SemaphorePart → Event → SemaphorePart
semaphore_part_after a (SemTake t k) =
    record a { sems = permit_taken a.sems t k; seeks = put a.seeks t (if none_left a.sems k then Some k else None) }
semaphore_part_after a (SemMark t k) = record a { sems = with_sem_parked a.sems k true }
semaphore_part_after a (SemPark t k) = record a { sems = seeker_queued a.sems t k }
semaphore_part_after a (SemFree t k) = record a { sems = permit_freed a.sems t k }
semaphore_part_after a (SemPass t k more) = record a { sems = permit_passed a.sems t k more }
semaphore_part_after a (SemClear t k) = record a { sems = with_sem_parked a.sems k false }
semaphore_part_after a _ = a

-- what is seen of a semaphore event; of the others the semaphore part tells nothing
abbrev pub semaphore_seen : SemaphorePart → Event → Seen
semaphore_seen a (SemTake t k) = Saw (not (none_left a.sems k))
semaphore_seen a (SemMark t k) = Done
semaphore_seen a (SemPark t k) = Saw (none_left a.sems k && a.sems.parked k)
semaphore_seen a (SemFree t k) = Saw (not (a.sems.parked k))
semaphore_seen a (SemPass t k more) = Sleeper (first (a.sems.line k))
semaphore_seen a (SemClear t k) = Done
semaphore_seen a _ = Done

-- semaphore part a becomes b by a semaphore event of which this is seen
abbrev pub SemaphoreStep : ℕ → ℕ → ℕ → SemaphorePart → Event → Seen → SemaphorePart → Type 0
SemaphoreStep threads first_sem sems a e saw b =
    SemaphoreAllowed threads first_sem sems a e × (saw ≡ semaphore_seen a e) × (b ≡ semaphore_part_after a e)

abbrev pub IsLockEvent : Event → Type 0
IsLockEvent (Try t l) = Unit {0}
IsLockEvent (Take t l) = Unit {0}
IsLockEvent (Mark t l) = Unit {0}
IsLockEvent (Park t l) = Unit {0}
IsLockEvent (Free t l) = Unit {0}
IsLockEvent (Pass t l fair more) = Unit {0}
IsLockEvent _ = ⊥

abbrev pub IsCondEvent : Event → Type 0
IsCondEvent (Enlist t c l) = Unit {0}
IsCondEvent (Look t c) = Unit {0}
IsCondEvent (Call t c n more) = Unit {0}
IsCondEvent (Lower t c) = Unit {0}
IsCondEvent (Sweep t c) = Unit {0}
IsCondEvent _ = ⊥

abbrev pub IsSemaphoreEvent : Event → Type 0
IsSemaphoreEvent (SemTake t k) = Unit {0}
IsSemaphoreEvent (SemMark t k) = Unit {0}
IsSemaphoreEvent (SemPark t k) = Unit {0}
IsSemaphoreEvent (SemFree t k) = Unit {0}
IsSemaphoreEvent (SemPass t k more) = Unit {0}
IsSemaphoreEvent (SemClear t k) = Unit {0}
IsSemaphoreEvent _ = ⊥

-- t stands where it tries to get l, so far as the lock part can't tell
abbrev pub StandsBefore : StateView → ℕ → ℕ → Type 0
StandsBefore s t l =
    (s.point t ≡ Wants l) ⊎ ((c : ℕ) × (s.point t ≡ Rest c l) × (¬ Contains (s.conds.line c) t))

-- what an event asks of its thread beside what its own part tells: the caller, who has all three parts of
-- a thread, answers for it
abbrev pub AsksOfThread : StateView → Event → Type 0
AsksOfThread s (Try t l) = s.point t ≡ Calm
AsksOfThread s (Take t l) = (s.point t ≡ Calm) ⊎ StandsBefore s t l
AsksOfThread s (Mark t l) = StandsBefore s t l
AsksOfThread s (Park t l) = Unit {0}
AsksOfThread s (Free t l) = MayLetGo s t l
AsksOfThread s (Pass t l fair more) = MayLetGo s t l
AsksOfThread s (Enlist t c l) = (s.point t ≡ Calm) × (s.locks.has l t ≡ true)
AsksOfThread s (Look t c) = s.point t ≡ Calm
AsksOfThread s (Call t c n more) = s.point t ≡ Calm
AsksOfThread s (Lower t c) = s.point t ≡ Calm
AsksOfThread s (Sweep t c) = Unit {0}
AsksOfThread s (SemTake t k) = (s.point t ≡ Calm) ⊎ (s.point t ≡ Seeks k)
AsksOfThread s (SemMark t k) = Unit {0}
AsksOfThread s (SemPark t k) = Unit {0}
AsksOfThread s (SemFree t k) = s.point t ≡ Calm
AsksOfThread s (SemPass t k more) = s.point t ≡ Calm
AsksOfThread s (SemClear t k) = s.point t ≡ Calm

-- an event is allowed exactly where its own part allows it and its thread stands as the event asks
abbrev pub LockPartAllows : StateView → Event → Type 0
LockPartAllows s e =
    IsLockEvent e →
    Allowed s e ↔ (LockAllowed s.threads s.lock_count (lock_part s) e × AsksOfThread s e)

abbrev pub CondPartAllows : StateView → Event → Type 0
CondPartAllows s e =
    IsCondEvent e →
    Allowed s e ↔ (CondAllowed s.threads s.lock_count s.cond_count (condition_part s) e × AsksOfThread s e)

abbrev pub SemaphorePartAllows : StateView → Event → Type 0
SemaphorePartAllows s e =
    IsSemaphoreEvent e →
    Allowed s e
    ↔ (SemaphoreAllowed s.threads (s.lock_count + s.cond_count) s.sem_count (semaphore_part s) e × AsksOfThread s e)

-- what event e of state s is to the lock part: a step with the same answer where it is a lock event,
-- and nothing where it is not
pub record LockPartFollows (s : StateView) (e : Event) : Type 0 where
  pub steps :
      IsLockEvent e →
      LockStep s.threads s.lock_count (lock_part s) e (seen s e) (lock_part (after s e))
  pub stays : (IsLockEvent e → ⊥) → lock_part (after s e) ≡ lock_part s

-- the same of the condition part
pub record CondPartFollows (s : StateView) (e : Event) : Type 0 where
  pub steps :
      IsCondEvent e →
      CondStep s.threads s.lock_count s.cond_count (condition_part s) e (seen s e) (condition_part (after s e))
  pub stays : (IsCondEvent e → ⊥) → condition_part (after s e) ≡ condition_part s

-- and of the semaphore part
pub record SemaphorePartFollows (s : StateView) (e : Event) : Type 0 where
  pub steps :
      IsSemaphoreEvent e →
      SemaphoreStep s.threads (s.lock_count + s.cond_count) s.sem_count (semaphore_part s) e (seen s e)
      (semaphore_part (after s e))
  pub stays : (IsSemaphoreEvent e → ⊥) → semaphore_part (after s e) ≡ semaphore_part s
