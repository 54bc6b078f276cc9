-- The events: where each is allowed, what it changes, and what its thread sees of it.
use Rattle.std.specs.Prelude.{◌≡◌, ℕ, ◌+◌, ◌-◌, ◌<◌, ◌≤◌, ◌==◌, ◌&&◌, ◌⊎◌, Bool, true, false, not, if◌then◌else◌, List, [], ◌∷◌, ◌++◌}
use Rattle.std.specs.Prelude.{length, drop, min, Option, Some, None}
use Rattle.std.specs.List.{Contains}
use Rattle.lot_events.specs.declared.events.Point.{Point}
use Rattle.lot_events.specs.declared.events.Point.TheVariants.{Calm, Wants, Bed, Rest, Sweeps, Seeks}
use Rattle.lot_events.specs.declared.events.Event.{Event}
use Rattle.lot_events.specs.declared.events.Event.TheVariants.{Try, Take, Mark, Park, Free, Pass, Enlist, Look, Call, Lower, Sweep, SemTake}
use Rattle.lot_events.specs.declared.events.Event.TheVariants.{SemMark, SemPark, SemFree, SemPass, SemClear}
use Rattle.lot_events.specs.declared.events.Seen.{Seen}
use Rattle.lot_events.specs.declared.events.Seen.TheVariants.{Bool as Saw, Done, Sleeper, Count}
use Rattle.lot_core.specs.declared.state.TheConstants.{MAX_THREADS}
use Rattle.lot_core.specs.Model.{StateView, Locks, Conds, Semaphores, put, opening_with}

-- who and what there is
abbrev pub IsThread : StateView → ℕ → Type 0
IsThread s t = t < s.threads

abbrev pub IsLock : StateView → ℕ → Type 0
IsLock s l = l < s.lock_count

abbrev pub IsCond : StateView → ℕ → Type 0
IsCond s c = (s.lock_count ≤ c) × (c < s.lock_count + s.cond_count)

abbrev pub IsSemaphore : StateView → ℕ → Type 0
IsSemaphore s k =
    (s.lock_count + s.cond_count ≤ k) × (k < s.lock_count + s.cond_count + s.sem_count)

-- t is trying to get l: it wants l and is not in l's line, or it rests on a condition and is not in
-- that condition's line
abbrev pub IsTrying : StateView → ℕ → ℕ → Type 0
IsTrying s t l =
    ((s.point t ≡ Wants l) × (¬ Contains (s.locks.line l) t))
    ⊎ ((c : ℕ) × (s.point t ≡ Rest c l) × (¬ Contains (s.conds.line c) t))

-- t is seeking a permit of k: it seeks one of k and is not in k's line
abbrev pub IsSeeking : StateView → ℕ → ℕ → Type 0
IsSeeking s t k = (s.point t ≡ Seeks k) × (¬ Contains (s.sems.line k) t)

-- t may let a lock go: it is calm, or at the bed of some condition
abbrev pub MayLetGo : StateView → ℕ → ℕ → Type 0
MayLetGo s t l = (s.point t ≡ Calm) ⊎ ((c : ℕ) × (s.point t ≡ Bed c l))

-- where some stay in the line when its first n leave, `more` is said
abbrev pub SaysMoreBehind : ℕ → List ℕ → Bool → Type 0
SaysMoreBehind n line more = n < length line → more ≡ true

-- the same where its first leaves
abbrev pub SaysMore : List ℕ → Bool → Type 0
SaysMore = SaysMoreBehind 1

-- how many threads one Call may take
abbrev pub IsCallCount : ℕ → Type 0
IsCallCount n = (1 ≤ n) × (n ≤ MAX_THREADS)

-- allowed where
abbrev pub Allowed : StateView → Event → Type 0
Allowed s (Try t l) = IsThread s t × IsLock s l × (s.point t ≡ Calm)
Allowed s (Take t l) = IsThread s t × IsLock s l × ((s.point t ≡ Calm) ⊎ IsTrying s t l)
Allowed s (Mark t l) = IsThread s t × IsLock s l × IsTrying s t l × (s.locks.held l ≡ true)
Allowed s (Park t l) = IsThread s t × IsLock s l × (s.point t ≡ Wants l) × (¬ Contains (s.locks.line l) t)
Allowed s (Free t l) = IsThread s t × IsLock s l × (s.locks.has l t ≡ true) × MayLetGo s t l
Allowed s (Pass t l fair more) =
    IsThread s t × IsLock s l × (s.locks.has l t ≡ true) × (s.locks.parked l ≡ true) × MayLetGo s t l
    × (fair ≡ false → SaysMore (s.locks.line l) more)
Allowed s (Enlist t c l) = IsThread s t × IsCond s c × IsLock s l × (s.point t ≡ Calm) × (s.locks.has l t ≡ true)
Allowed s (Look t c) = IsThread s t × IsCond s c × (s.point t ≡ Calm)
Allowed s (Call t c n more) =
    IsThread s t × IsCond s c × (s.point t ≡ Calm) × IsCallCount n × SaysMoreBehind n (s.conds.line c) more
Allowed s (Lower t c) = IsThread s t × IsCond s c × (s.point t ≡ Calm)
Allowed s (Sweep t c) = IsThread s t × IsCond s c × (s.point t ≡ Sweeps c)
Allowed s (SemTake t k) = IsThread s t × IsSemaphore s k × ((s.point t ≡ Calm) ⊎ IsSeeking s t k)
Allowed s (SemMark t k) = IsThread s t × IsSemaphore s k × IsSeeking s t k × (s.sems.left k ≡ 0)
Allowed s (SemPark t k) = IsThread s t × IsSemaphore s k × IsSeeking s t k
Allowed s (SemFree t k) = IsThread s t × IsSemaphore s k × (s.point t ≡ Calm) × (1 ≤ s.sems.out k t)
Allowed s (SemPass t k more) =
    IsThread s t × IsSemaphore s k × (s.point t ≡ Calm) × (1 ≤ s.sems.out k t) × SaysMore (s.sems.line k) more
Allowed s (SemClear t k) = IsThread s t × IsSemaphore s k × (s.point t ≡ Calm) × (s.sems.line k ≡ [])

-- t gets l where l is unheld
abbrev pub got : Locks → ℕ → ℕ → Locks
got s t l =
    if s.held l then s
    else record s { held = put s.held l true; has = put s.has l (put (s.has l) t true) }

abbrev pub marked : Locks → ℕ → Locks
marked s l = record s { parked = put s.parked l true }

-- t goes last in l's line where l is held and parked
abbrev pub queued : Locks → ℕ → ℕ → Locks
queued s t l = if s.held l && s.parked l then record s { line = put s.line l (s.line l ++ t ∷ []) } else s

-- t lets l go where l is unparked
abbrev pub freed : Locks → ℕ → ℕ → Locks
freed s t l =
    if s.parked l then s
    else record s { held = put s.held l false; has = put s.has l (put (s.has l) t false) }

-- t passes l on: to the first of its line where the pass is fair, else to nobody
abbrev pub passed_line : Locks → ℕ → ℕ → Bool → Bool → List ℕ → Locks
passed_line s t l fair more [] =
    record s { held = put s.held l false; parked = put s.parked l false; has = put s.has l (put (s.has l) t false) }
passed_line s t l fair more (u ∷ rest) =
    if fair
    then record s { line = put s.line l rest; has = put s.has l (put (put (s.has l) t false) u true) }
    else record s {
      held = put s.held l false;
      parked = put s.parked l more;
      line = put s.line l rest;
      has = put s.has l (put (s.has l) t false);
    }

abbrev pub passed : Locks → ℕ → ℕ → Bool → Bool → Locks
passed s t l fair more = passed_line s t l fair more (s.line l)

abbrev pub enlisted : Conds → ℕ → ℕ → Conds
enlisted s t c = record s { flag = put s.flag c true; line = put s.line c (s.line c ++ t ∷ []) }

-- the first n of c's line leave it
abbrev pub dequeued : Conds → ℕ → ℕ → Conds
dequeued s c n = record s { line = put s.line c (drop n (s.line c)) }

-- how many of a line its first n are
abbrev pub dequeued_count : ℕ → List ℕ → ℕ
dequeued_count n line = min n (length line)

-- a flag after a Call that found this line: where nobody was there, or no more may wait, it is clear
abbrev pub flag_after_call : Bool → Bool → List ℕ → Bool
flag_after_call flag more [] = false
flag_after_call flag more (u ∷ rest) = flag && more

abbrev pub called : Conds → ℕ → ℕ → Bool → Conds
called s c n more = record (dequeued s c n) { flag = put s.flag c (flag_after_call (s.flag c) more (s.line c)) }

abbrev pub lowered : Conds → ℕ → Conds
lowered s c = record s { flag = put s.flag c false }

abbrev pub swept : Conds → ℕ → Conds
swept s c = dequeued s c (length (s.line c))

-- no permit of k is left
abbrev pub none_left : Semaphores → ℕ → Bool
none_left z k = z.left k == 0

-- t takes a permit of k where one is left
abbrev pub permit_taken : Semaphores → ℕ → ℕ → Semaphores
permit_taken z t k =
    if none_left z k then z
    else record z { left = put z.left k (z.left k - 1); out = put z.out k (put (z.out k) t (z.out k t + 1)) }

-- t gives a permit of k back
abbrev pub permit_given : Semaphores → ℕ → ℕ → Semaphores
permit_given z t k =
    record z { left = put z.left k (z.left k + 1); out = put z.out k (put (z.out k) t (z.out k t - 1)) }

-- k's parked bit becomes this
abbrev pub with_sem_parked : Semaphores → ℕ → Bool → Semaphores
with_sem_parked z k parked = record z { parked = put z.parked k parked }

-- k's line becomes this
abbrev pub with_sem_line : Semaphores → ℕ → List ℕ → Semaphores
with_sem_line z k line = record z { line = put z.line k line }

-- t goes last in k's line where no permit is left and k is parked
abbrev pub seeker_queued : Semaphores → ℕ → ℕ → Semaphores
seeker_queued z t k = if none_left z k && z.parked k then with_sem_line z k (z.line k ++ t ∷ []) else z

-- t gives a permit of k back where k is unparked
abbrev pub permit_freed : Semaphores → ℕ → ℕ → Semaphores
permit_freed z t k = if z.parked k then z else permit_given z t k

-- the first of k's line, if any, leaves it, and the parked bit becomes `more`
abbrev pub seeker_woken : Semaphores → ℕ → Bool → List ℕ → Semaphores
seeker_woken z k more [] = z
seeker_woken z k more (u ∷ rest) = record z { parked = put z.parked k more; line = put z.line k rest }

-- t gives a permit of k back, and the first of the line may take it
abbrev pub permit_passed : Semaphores → ℕ → ℕ → Bool → Semaphores
permit_passed z t k more = seeker_woken (permit_given z t k) k more (z.line k)

-- Bed(c,l) becomes Rest(c,l)
abbrev pub released : Point → Point
released (Bed c l) = Rest c l
released Calm = Calm
released (Wants l) = Wants l
released (Rest c l) = Rest c l
released (Sweeps c) = Sweeps c
released (Seeks k) = Seeks k

-- where t lets a lock go and hands it to the first of the line, if any
abbrev pub handed : (ℕ → Point) → List ℕ → (ℕ → Point)
handed point [] = point
handed point (u ∷ rest) = put point u Calm

abbrev pub let_go : (ℕ → Point) → ℕ → (ℕ → Point)
let_go point t = put point t (released (point t))

-- change
abbrev pub after : StateView → Event → StateView
after s (Try t l) = record s { locks = got s.locks t l }
after s (Take t l) =
    record s { locks = got s.locks t l; point = put s.point t (if s.locks.held l then Wants l else Calm) }
after s (Mark t l) = record s { locks = marked s.locks l }
after s (Park t l) = record s { locks = queued s.locks t l }
after s (Free t l) =
    record s { locks = freed s.locks t l; point = if s.locks.parked l then s.point else let_go s.point t }
after s (Pass t l fair more) =
    record s {
      locks = passed s.locks t l fair more;
      point = if fair then handed (let_go s.point t) (s.locks.line l) else let_go s.point t;
    }
after s (Enlist t c l) = record s { conds = enlisted s.conds t c; point = put s.point t (Bed c l) }
after s (Look t c) = s
after s (Call t c n more) = record s { conds = called s.conds c n more }
after s (Lower t c) = record s { conds = lowered s.conds c; point = put s.point t (Sweeps c) }
after s (Sweep t c) = record s { conds = swept s.conds c; point = put s.point t Calm }
after s (SemTake t k) =
    record s {
      sems = permit_taken s.sems t k;
      point = put s.point t (if none_left s.sems k then Seeks k else Calm);
    }
after s (SemMark t k) = record s { sems = with_sem_parked s.sems k true }
after s (SemPark t k) = record s { sems = seeker_queued s.sems t k }
after s (SemFree t k) = record s { sems = permit_freed s.sems t k }
after s (SemPass t k more) = record s { sems = permit_passed s.sems t k more }
after s (SemClear t k) = record s { sems = with_sem_parked s.sems k false }

abbrev pub first : List ℕ → Option ℕ
first [] = None
first (u ∷ rest) = Some u

-- seen
abbrev pub seen : StateView → Event → Seen
seen s (Try t l) = Saw (not (s.locks.held l))
seen s (Take t l) = Saw (not (s.locks.held l))
seen s (Mark t l) = Done
seen s (Park t l) = Saw (s.locks.held l && s.locks.parked l)
seen s (Free t l) = Saw (not (s.locks.parked l))
seen s (Pass t l fair more) = Sleeper (first (s.locks.line l))
seen s (Enlist t c l) = Done
seen s (Look t c) = Saw (s.conds.flag c)
seen s (Call t c n more) = Count (dequeued_count n (s.conds.line c))
seen s (Lower t c) = Done
seen s (Sweep t c) = Count (length (s.conds.line c))
seen s (SemTake t k) = Saw (not (none_left s.sems k))
seen s (SemMark t k) = Done
seen s (SemPark t k) = Saw (none_left s.sems k && s.sems.parked k)
seen s (SemFree t k) = Saw (not (s.sems.parked k))
seen s (SemPass t k more) = Sleeper (first (s.sems.line k))
seen s (SemClear t k) = Done

-- a run: each event is allowed in the state before it
abbrev pub Run : StateView → List Event → Type 0
Run s [] = Unit {0}
Run s (e ∷ events) = Allowed s e × Run (after s e) events

abbrev pub after_all : StateView → List Event → StateView
after_all s [] = s
after_all s (e ∷ events) = after_all (after s e) events

-- a run from an opening state ends in s
pub record IsReached (s : StateView) : Type 0 where
  pub threads : ℕ
  pub locks : ℕ
  pub conds : ℕ
  pub permits : List ℕ
  pub events : List Event
  pub run : Run (opening_with threads locks conds permits) events
  pub ends : s ≡ after_all (opening_with threads locks conds permits) events
