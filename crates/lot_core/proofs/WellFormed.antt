-- Each event names only what there is, so the state after it does.
use Rattle.std.proofs.Common.{◌≡◌, ◌+◌, ◌-◌, ◌≤◌, ℕ, Bool, true, false, List, [], ◌∷◌, refl, subst, sym, arith}
use Rattle.std.specs.Prelude.{◌&&◌, ◌++◌, if◌then◌else◌}
use Rattle.std.specs.List.{Contains}
use Rattle.lot_events.specs.declared.events.Point.{Point}
use Rattle.lot_events.specs.declared.events.Point.TheVariants.{Calm, Wants, Bed, Rest, Sweeps, Seeks}
use Rattle.lot_events.specs.declared.events.Event.{Event}
use Rattle.lot_events.specs.declared.events.Event.TheVariants.{Try, Take, Park, Free, Pass, Enlist, Lower, Sweep}
use Rattle.lot_events.specs.declared.events.Event.TheVariants.{SemTake, SemPark, SemFree, SemPass}
use Rattle.lot_core.specs.Model.{StateView, put, opening_with}
use Rattle.lot_core.specs.Steps.{IsThread, IsLock, IsSemaphore, Allowed, Run, after, after_all}
use Rattle.lot_core.specs.Steps.{IsReached, passed, passed_line, handed, let_go, released, none_left, permit_given}
use Rattle.lot_core.specs.Steps.{seeker_woken}
use Rattle.lot_core.specs.Sound.{IsSound}
use Rattle.lot_core.specs.WellFormed.{MayStand, IsWellFormed}
use Rattle.lot_core.proofs.Put.{by_bit, by_line, at_all, turned}
use Rattle.lot_core.proofs.Members.{in_head}
use Rattle.lot_core.proofs.Law.{opening_sound, sound_kept}

-- what each of the three fields says, of other locks, permits and points of the state
abbrev AreOwners : StateView → (ℕ → ℕ → Bool) → Type 0
AreOwners s has = (l t : ℕ) → has l t ≡ true → IsThread s t × IsLock s l

abbrev AreTakers : StateView → (ℕ → ℕ → ℕ) → Type 0
AreTakers s out = (k t : ℕ) → 1 ≤ out k t → IsThread s t × IsSemaphore s k

abbrev MayAllStand : StateView → (ℕ → Point) → Type 0
MayAllStand s point = (t : ℕ) → MayStand s t (point t)

-- t goes to p
went : (s : StateView) (point : ℕ → Point) (t : ℕ) (p : Point) → MayAllStand s point → MayStand s t p → MayAllStand s (put point t p)
went s point t p all may = at_all (λ v b. MayStand s v (if b then p else point v)) t may (λ v ne. all v)

-- one thread's part of one lock, or of one semaphore, changes
owner_put : (s : StateView) (has : ℕ → ℕ → Bool) (l t : ℕ) (b : Bool) → AreOwners s has → IsThread s t → IsLock s l
    → AreOwners s (put has l (put (has l) t b))
owner_put s has l t b all thread lock =
    at_all (λ i e. (v : ℕ) → (if e then put (has l) t b else has i) v ≡ true → IsThread s v × IsLock s i) l
    (at_all (λ v e. (if e then b else has l v) ≡ true → IsThread s v × IsLock s l) t (λ _. (thread, lock)) (λ v ne. all l v))
    (λ i ne. all i)

taker_put : (s : StateView) (out : ℕ → ℕ → ℕ) (k t n : ℕ) → AreTakers s out → IsThread s t → IsSemaphore s k
    → AreTakers s (put out k (put (out k) t n))
taker_put s out k t n all thread sem =
    at_all (λ i e. (v : ℕ) → 1 ≤ (if e then put (out k) t n else out i) v → IsThread s v × IsSemaphore s i) k
    (at_all (λ v e. 1 ≤ (if e then n else out k v) → IsThread s v × IsSemaphore s k) t (λ _. (thread, sem)) (λ v ne. all k v))
    (λ i ne. all i)

-- t lets go: from a bed it comes to rest
let_go_stands : (s : StateView) (t : ℕ) (p : Point) → MayStand s t p → MayStand s t (released p)
let_go_stands s t Calm may = may
let_go_stands s t (Wants l) may = may
let_go_stands s t (Bed c l) may = may
let_go_stands s t (Rest c l) may = may
let_go_stands s t (Sweeps c) may = may
let_go_stands s t (Seeks k) may = may

let_go_all : (s : StateView) (t : ℕ) → MayAllStand s s.point → MayAllStand s (let_go s.point t)
let_go_all s t all = went s s.point t (released (s.point t)) all (let_go_stands s t (s.point t) (all t))

-- who is in a lock's line is a thread
queued_thread : (s : StateView) (l u : ℕ) (rest : List ℕ) → IsSound s → s.locks.line l ≡ u ∷ rest → IsThread s u
queued_thread s l u rest sound is = (sound.one_line_each.wants l u (subst (λ xs. Contains xs u) (sym is) (in_head u rest))).0

passed_owners : (s : StateView) (t l : ℕ) (fair more : Bool) → IsSound s → AreOwners s s.locks.has → IsThread s t → IsLock s l
    → AreOwners s (passed s.locks t l fair more).has
passed_owners s t l fair more sound all thread lock =
    by_line (λ xs. AreOwners s (passed_line s.locks t l fair more xs).has) (s.locks.line l)
    (λ none. owner_put s s.locks.has l t false all thread lock)
    (λ u rest is. by_bit (λ b. AreOwners s (passed_line s.locks t l b more (u ∷ rest)).has) fair
    (λ _. at_all (λ i e. (v : ℕ) → (if e then put (put (s.locks.has l) t false) u true else s.locks.has i) v ≡ true → IsThread s v × IsLock s i) l
    (at_all (λ v e. (if e then true else put (s.locks.has l) t false v) ≡ true → IsThread s v × IsLock s l) u
    (λ _. (queued_thread s l u rest sound is, lock))
    (λ v ne. at_all (λ w e. (if e then false else s.locks.has l w) ≡ true → IsThread s w × IsLock s l) t
    (λ _. (thread, lock)) (λ w other. all l w) v))
    (λ i ne. all i))
    (λ _. owner_put s s.locks.has l t false all thread lock))

pub event_formed : (s : StateView) (e : Event) → IsSound s → IsWellFormed s → Allowed s e → IsWellFormed (after s e)
event_formed s (Try t l) sound f ok = record {
  owners = by_bit (λ b. AreOwners s (if b then s.locks else turned s.locks t l true).has)
      (s.locks.held l) (λ _. f.owners) (λ _. owner_put s s.locks.has l t true f.owners ok.0 ok.1);
  takers = f.takers;
  points = f.points;
}
event_formed s (Take t l) sound f ok = record {
  owners = by_bit (λ b. AreOwners s (if b then s.locks else turned s.locks t l true).has)
      (s.locks.held l) (λ _. f.owners) (λ _. owner_put s s.locks.has l t true f.owners ok.0 ok.1);
  takers = f.takers;
  points = by_bit (λ b. MayAllStand s (put s.point t (if b then Wants l else Calm))) (s.locks.held l)
      (λ _. went s s.point t (Wants l) f.points (ok.0, ok.1)) (λ _. went s s.point t Calm f.points tt);
}
event_formed s (Park t l) sound f ok = record {
  owners = by_bit (λ b. AreOwners s (if b then record s.locks { line = put s.locks.line l (s.locks.line l ++ t ∷ []) } else s.locks).has)
      (s.locks.held l && s.locks.parked l) (λ _. f.owners) (λ _. f.owners);
  takers = f.takers;
  points = f.points;
}
event_formed s (Free t l) sound f ok = record {
  owners = by_bit (λ b. AreOwners s (if b then s.locks else turned s.locks t l false).has)
      (s.locks.parked l) (λ _. f.owners) (λ _. owner_put s s.locks.has l t false f.owners ok.0 ok.1);
  takers = f.takers;
  points = by_bit (λ b. MayAllStand s (if b then s.point else let_go s.point t)) (s.locks.parked l)
      (λ _. f.points) (λ _. let_go_all s t f.points);
}
event_formed s (Pass t l fair more) sound f ok = record {
  owners = passed_owners s t l fair more sound f.owners ok.0 ok.1;
  takers = f.takers;
  points = by_bit (λ b. MayAllStand s (if b then handed (let_go s.point t) (s.locks.line l) else let_go s.point t)) fair
      (λ _. by_line (λ xs. MayAllStand s (handed (let_go s.point t) xs)) (s.locks.line l)
      (λ none. let_go_all s t f.points)
      (λ u rest is. went s (let_go s.point t) u Calm (let_go_all s t f.points) tt))
      (λ _. let_go_all s t f.points);
}
event_formed s (Enlist t c l) sound f ok =
    record { owners = f.owners; takers = f.takers; points = went s s.point t (Bed c l) f.points (ok.0, ok.1, ok.2) }
event_formed s (Lower t c) sound f ok =
    record { owners = f.owners; takers = f.takers; points = went s s.point t (Sweeps c) f.points (ok.0, ok.1) }
event_formed s (Sweep t c) sound f ok =
    record { owners = f.owners; takers = f.takers; points = went s s.point t Calm f.points tt }
event_formed s (SemTake t k) sound f ok = record {
  owners = f.owners;
  takers = by_bit (λ b. AreTakers s (if b then s.sems else record s.sems {
    left = put s.sems.left k (s.sems.left k - 1);
    out = put s.sems.out k (put (s.sems.out k) t (s.sems.out k t + 1));
  }).out) (none_left s.sems k) (λ _. f.takers) (λ _. taker_put s s.sems.out k t (s.sems.out k t + 1) f.takers ok.0 ok.1);
  points = by_bit (λ b. MayAllStand s (put s.point t (if b then Seeks k else Calm))) (none_left s.sems k)
      (λ _. went s s.point t (Seeks k) f.points (ok.0, ok.1)) (λ _. went s s.point t Calm f.points tt);
}
event_formed s (SemPark t k) sound f ok = record {
  owners = f.owners;
  takers = by_bit (λ b. AreTakers s (if b then record s.sems { line = put s.sems.line k (s.sems.line k ++ t ∷ []) } else s.sems).out)
      (none_left s.sems k && s.sems.parked k) (λ _. f.takers) (λ _. f.takers);
  points = f.points;
}
event_formed s (SemFree t k) sound f ok = record {
  owners = f.owners;
  takers = by_bit (λ b. AreTakers s (if b then s.sems else permit_given s.sems t k).out) (s.sems.parked k)
      (λ _. f.takers) (λ _. taker_put s s.sems.out k t (s.sems.out k t - 1) f.takers ok.0 ok.1);
  points = f.points;
}
event_formed s (SemPass t k more) sound f ok = record {
  owners = f.owners;
  takers = by_line (λ xs. AreTakers s (seeker_woken (permit_given s.sems t k) k more xs).out) (s.sems.line k)
      (λ none. taker_put s s.sems.out k t (s.sems.out k t - 1) f.takers ok.0 ok.1)
      (λ u rest is. taker_put s s.sems.out k t (s.sems.out k t - 1) f.takers ok.0 ok.1);
  points = f.points;
}
event_formed s _ sound f ok = record { owners = f.owners; takers = f.takers; points = f.points }

pub opening_formed : (threads locks conds : ℕ) (permits : List ℕ) → IsWellFormed (opening_with threads locks conds permits)
opening_formed threads locks conds permits = record {
  owners = λ l t has. absurd (cc);
  takers = λ k t some. absurd (omega (arith, some));
  points = λ t. tt;
}

-- after each run from a state that is sound and well formed
pub run_formed : (s : StateView) (events : List Event) → IsSound s → IsWellFormed s → Run s events → IsWellFormed (after_all s events)
run_formed s [] sound f run = f
run_formed s (e ∷ events) sound f run =
    run_formed (after s e) events (sound_kept s e sound run.0) (event_formed s e sound f run.0) run.1

-- who is no thread is calm
pub stranger_calm : (s : StateView) (t : ℕ) → IsWellFormed s → ¬ IsThread s t → s.point t ≡ Calm
stranger_calm s t f stranger = calm (s.point t) (f.points t)
  where
    calm : (p : Point) → MayStand s t p → p ≡ Calm
    calm Calm may = refl
    calm (Wants l) may = absurd (stranger may.0)
    calm (Bed c l) may = absurd (stranger may.0)
    calm (Rest c l) may = absurd (stranger may.0)
    calm (Sweeps c) may = absurd (stranger may.0)
    calm (Seeks k) may = absurd (stranger may.0)

pub runs_are_formed : (threads locks conds : ℕ) (permits : List ℕ) (events : List Event)
    → Run (opening_with threads locks conds permits) events → IsWellFormed (after_all (opening_with threads locks conds permits) events)
runs_are_formed threads locks conds permits events run =
    run_formed (opening_with threads locks conds permits) events (opening_sound threads locks conds permits)
    (opening_formed threads locks conds permits) run

pub reached_formed : (s : StateView) → IsReached s → IsWellFormed s
reached_formed s r = subst IsWellFormed (sym r.ends) (runs_are_formed r.threads r.locks r.conds r.permits r.events r.run)
