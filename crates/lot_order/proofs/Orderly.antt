-- Each event that keeps the order leaves it kept.
use Rattle.std.proofs.Common.{◌≡◌, ◌≢◌, ◌+◌, ◌-◌, ◌<◌, ◌≤◌, ◌++◌, ℕ, Bool, true}
use Rattle.std.proofs.Common.{false, List, [], ◌∷◌, refl, subst, sym, ap, ◌∙◌, arith, inl, inr}
use Rattle.std.specs.Prelude.{◌&&◌, if◌then◌else◌}
use Rattle.std.proofs.lemmas.Bool.{cases_eq, eqb-true}
use Rattle.lot_events.specs.declared.events.Point.{Point}
use Rattle.lot_events.specs.declared.events.Point.TheVariants.{Calm, Wants, Bed, Rest, Sweeps, Seeks}
use Rattle.lot_events.specs.declared.events.Event.{Event}
use Rattle.lot_events.specs.declared.events.Event.TheVariants.{Try, Take, Park, Free, Pass}
use Rattle.lot_events.specs.declared.events.Event.TheVariants.{Enlist, Lower, Sweep, SemTake}
use Rattle.lot_events.specs.declared.events.Event.TheVariants.{SemPark, SemFree, SemPass}
use Rattle.lot_core.specs.Model.{StateView, Locks, Semaphores, put}
use Rattle.lot_core.specs.Steps.{MayLetGo, Allowed, Run, after, after_all, passed_line, handed, let_go, released}
use Rattle.lot_core.specs.Steps.{none_left, permit_given}
use Rattle.lot_core.specs.Steps.{seeker_woken, with_sem_line}
use Rattle.lot_core.proofs.Put.{by_bit, by_line, at_all, put_same, put_other, turned}
use Rattle.lot_order.specs.Order.{Keys, held_by, HasKey, HasBeside, InOrder, key_count, IsOrdered, KeepsOrder, OrderlyRun}
use Rattle.lot_order.proofs.Circles.{ordered_at}

-- what the thread has by these locks and semaphores
abbrev pub rights : Locks → Semaphores → ℕ → Keys
rights a z t = record { locks = λ l. a.has l t ≡ true; permits = λ k. z.out k t }

-- who has h' has nothing that is not in h
pub record IsWithin (h' h : Keys) : Type 0 where
  pub locks : (j : ℕ) → h'.locks j → h.locks j
  pub permits : (j : ℕ) → 1 ≤ h'.permits j → 1 ≤ h.permits j

pub within_itself : (h : Keys) → IsWithin h h
within_itself h = record { locks = λ j e. e; permits = λ j e. e }

pub fewer_keys : (h' h : Keys) → IsWithin h' h → (j : ℕ) → HasKey h' j → HasKey h j
fewer_keys h' h within j (inl lock) = inl (within.locks j lock)
fewer_keys h' h within j (inr permit) = inr (within.permits j permit)

pub fewer_beside : (h' h : Keys) (l : ℕ) → IsWithin h' h → (j : ℕ) → HasBeside h' l j → HasBeside h l j
fewer_beside h' h l within j (inl (lock, ne)) = inl (within.locks j lock, ne)
fewer_beside h' h l within j (inr permit) = inr (within.permits j permit)

-- with fewer keys a thread stays in order
pub fewer : (above : ℕ → ℕ → Type 0) (keys : ℕ) (h' h : Keys) (p : Point) → IsWithin h' h
    → InOrder above keys h p → InOrder above keys h' p
fewer above keys h' h Calm within o = tt
fewer above keys h' h (Wants l) within o = (o.0, λ j has. o.1 j (fewer_keys h' h within j has))
fewer above keys h' h (Bed c l) within o =
    (o.0, ((λ j has. o.1.0 j (fewer_beside h' h l within j has)), (λ j has. o.1.1 j (fewer_beside h' h l within j has))))
fewer above keys h' h (Rest c l) within o =
    (o.0, (λ j has. o.1 j (fewer_keys h' h within j has)), (λ j has. o.2 j (fewer_keys h' h within j has)))
fewer above keys h' h (Sweeps c) within o = tt
fewer above keys h' h (Seeks k) within o = (o.0, λ j has. o.1 j (fewer_keys h' h within j has))

-- the state's threads are in order with these rights and points
abbrev pub AreOrdered : (ℕ → ℕ → Type 0) → StateView → (ℕ → Keys) → (ℕ → Point) → Type 0
AreOrdered above s has point = (v : ℕ) → InOrder above (key_count s) (has v) (point v)

-- all but t have no more than before
abbrev pub OthersWithin : StateView → (ℕ → Keys) → ℕ → Type 0
OthersWithin s has t = (v : ℕ) → v ≢ t → IsWithin (has v) (held_by s v)

-- t goes to p, and is in order there
pub moved : (above : ℕ → ℕ → Type 0) (s : StateView) (has : ℕ → Keys) (t : ℕ) (p : Point) → IsOrdered above s → OthersWithin s has t
    → InOrder above (key_count s) (has t) p → AreOrdered above s has (put s.point t p)
moved above s has t p ordered others own =
    at_all (λ v b. InOrder above (key_count s) (has v) (if b then p else s.point v)) t own
    (λ v ne. fewer above (key_count s) (has v) (held_by s v) (s.point v) (others v ne) (ordered v))

-- t stays where it is, and is in order there
pub stayed : (above : ℕ → ℕ → Type 0) (s : StateView) (has : ℕ → Keys) (t : ℕ) → IsOrdered above s → OthersWithin s has t
    → InOrder above (key_count s) (has t) (s.point t) → AreOrdered above s has s.point
stayed above s has t ordered others own v = elim (cases_eq v t) [
  | inl same ↦ subst (λ w. InOrder above (key_count s) (has w) (s.point w)) (sym same) own
  | inr ne ↦ fewer above (key_count s) (has v) (held_by s v) (s.point v) (others v ne) (ordered v)
]

-- a calm thread is in order with whatever it has
pub calm_stayed : (above : ℕ → ℕ → Type 0) (s : StateView) (has : ℕ → Keys) (t : ℕ) → IsOrdered above s → OthersWithin s has t
    → s.point t ≡ Calm
    → AreOrdered above s has s.point
calm_stayed above s has t ordered others calm =
    stayed above s has t ordered others
    (subst (λ p. InOrder above (key_count s) (has t) p) (sym calm) tt)

-- Locks.

-- one thread's part of one lock changes: the others have what they had
pub lock_others : (s : StateView) (l t : ℕ) (b : Bool) →
    OthersWithin s (rights (turned s.locks t l b) s.sems) t
lock_others s l t b v ne = record {
  locks = λ j. at_all (λ i e. (if e then put (s.locks.has l) t b else s.locks.has i) v ≡ true → s.locks.has i v ≡ true) l
      (λ has. sym (put_other (s.locks.has l) t b v ne) ∙ has) (λ i ne has. has) j;
  permits = λ j e. e;
}

pub try_ordered : (above : ℕ → ℕ → Type 0) (s : StateView) (t l : ℕ) → IsOrdered above s → s.point t ≡ Calm
    → IsOrdered above (after s (Try t l))
try_ordered above s t l ordered calm =
    by_bit (λ b. AreOrdered above s (rights (if b then s.locks else turned s.locks t l true) s.sems) s.point) (s.locks.held l)
    (λ held. ordered)
    (λ free. calm_stayed above s _ t ordered (lock_others s l t true) calm)

pub take_ordered : (above : ℕ → ℕ → Type 0) (s : StateView) (t l : ℕ) → IsOrdered above s → l < s.lock_count → KeepsOrder above s (Take t l)
    → IsOrdered above (after s (Take t l))
take_ordered above s t l ordered lock keeps =
    by_bit (λ b. AreOrdered above s (rights (if b then s.locks else turned s.locks t l true) s.sems)
    (put s.point t (if b then Wants l else Calm))) (s.locks.held l)
    (λ held. moved above s (held_by s) t (Wants l) ordered (λ v ne. within_itself (held_by s v)) (omega (arith, lock), keeps held))
    (λ free. moved above s _ t Calm ordered (lock_others s l t true) tt)

-- t has all that it had but lock l
pub own_left : (s : StateView) (l t : ℕ) (has : ℕ → ℕ → Bool) → has l t ≡ false → ((j : ℕ) → j ≢ l → has j t ≡ s.locks.has j t)
    → (j : ℕ) → has j t ≡ true → (s.locks.has j t ≡ true) × (j ≢ l)
own_left s l t has lost same j is = elim (cases_eq j l) [
  | inl here ↦ let it : has l t ≡ true = subst (λ i. has i t ≡ true) here is in absurd (cc)
  | inr ne ↦ (sym (same j ne) ∙ is, ne)
]

-- who lets l go from a bed rests, with what lay beside it
pub left_bed : (above : ℕ → ℕ → Type 0) (s : StateView) (c l t : ℕ) (h : Keys) → IsOrdered above s → s.point t ≡ Bed c l
    → ((j : ℕ) → HasKey h j → HasBeside (held_by s t) l j) → InOrder above (key_count s) h (Rest c l)
left_bed above s c l t h ordered bed beside =
    let o = ordered_at above s t (Bed c l) ordered bed in
    (o.0, (λ j has. o.1.0 j (beside j has)), (λ j has. o.1.1 j (beside j has)))

-- t, without l, goes where letting it go leads
pub let_go_own : (above : ℕ → ℕ → Type 0) (s : StateView) (l t : ℕ) (has : ℕ → ℕ → Bool) → IsOrdered above s → MayLetGo s t l
    → has l t ≡ false
    → ((j : ℕ) → j ≢ l → has j t ≡ s.locks.has j t)
    → InOrder above (key_count s) (record { locks = λ j. has j t ≡ true; permits = λ k. s.sems.out k t }) (released (s.point t))
let_go_own above s l t has ordered (inl calm) lost same =
    subst (λ p. InOrder above (key_count s) (record { locks = λ j. has j t ≡ true; permits = λ k. s.sems.out k t }) (released p))
    (sym calm) tt
let_go_own above s l t has ordered (inr (c, bed)) lost same =
    subst (λ p. InOrder above (key_count s) (record { locks = λ j. has j t ≡ true; permits = λ k. s.sems.out k t }) (released p))
    (sym bed)
    (left_bed above s c l t _ ordered bed (λ j key. elim key [
      | inl lock ↦ inl (own_left s l t has lost same j lock)
      | inr permit ↦ inr permit
    ]))

-- t lets l go to nobody
pub freed_ordered : (above : ℕ → ℕ → Type 0) (s : StateView) (l t : ℕ) → IsOrdered above s → MayLetGo s t l
    → AreOrdered above s (rights (turned s.locks t l false) s.sems) (let_go s.point t)
freed_ordered above s l t ordered may =
    moved above s _ t (released (s.point t)) ordered (lock_others s l t false)
    (let_go_own above s l t (turned s.locks t l false).has ordered may
    (ap (λ f. f t) (put_same s.locks.has l (put (s.locks.has l) t false)) ∙ put_same (s.locks.has l) t false)
    (λ j ne. ap (λ f. f t) (put_other s.locks.has l (put (s.locks.has l) t false) j ne)))

pub free_ordered : (above : ℕ → ℕ → Type 0) (s : StateView) (t l : ℕ) → IsOrdered above s → MayLetGo s t l
    → IsOrdered above (after s (Free t l))
free_ordered above s t l ordered may =
    by_bit (λ b. AreOrdered above s (rights (if b then s.locks else turned s.locks t l false) s.sems)
    (if b then s.point else let_go s.point t)) (s.locks.parked l)
    (λ parked. ordered)
    (λ unparked. freed_ordered above s l t ordered may)

-- t hands l to u, who is calm then
pub handed_ordered : (above : ℕ → ℕ → Type 0) (s : StateView) (t l u : ℕ) → IsOrdered above s → MayLetGo s t l
    → AreOrdered above s (rights (record s.locks { has = put s.locks.has l (put (put (s.locks.has l) t false) u true) }) s.sems)
    (put (let_go s.point t) u Calm)
handed_ordered above s t l u ordered may =
    at_all (λ v b. InOrder above (key_count s)
    (rights (record s.locks { has = put s.locks.has l (put (put (s.locks.has l) t false) u true) }) s.sems v)
    (if b then Calm else let_go s.point t v)) u tt
    (λ v ne. fewer above (key_count s) _
    (rights (turned s.locks t l false) s.sems v) (let_go s.point t v)
    (record {
      locks = λ j. at_all (λ i e. (if e then put (put (s.locks.has l) t false) u true else s.locks.has i) v ≡ true
          → (if e then put (s.locks.has l) t false else s.locks.has i) v ≡ true) l
          (λ has. sym (put_other (put (s.locks.has l) t false) u true v ne) ∙ has) (λ i ne has. has) j;
      permits = λ j e. e;
    })
    (freed_ordered above s l t ordered may v))

pub pass_ordered : (above : ℕ → ℕ → Type 0) (s : StateView) (t l : ℕ) (fair more : Bool) → IsOrdered above s → MayLetGo s t l
    → IsOrdered above (after s (Pass t l fair more))
pass_ordered above s t l true more ordered may =
    by_line (λ xs. AreOrdered above s (rights (passed_line s.locks t l true more xs) s.sems) (handed (let_go s.point t) xs))
    (s.locks.line l)
    (λ none. freed_ordered above s l t ordered may)
    (λ u rest is. handed_ordered above s t l u ordered may)
pass_ordered above s t l false more ordered may =
    by_line (λ xs. AreOrdered above s (rights (passed_line s.locks t l false more xs) s.sems) (let_go s.point t)) (s.locks.line l)
    (λ none. freed_ordered above s l t ordered may)
    (λ u rest is. freed_ordered above s l t ordered may)

pub park_ordered : (above : ℕ → ℕ → Type 0) (s : StateView) (t l : ℕ) → IsOrdered above s → IsOrdered above (after s (Park t l))
park_ordered above s t l ordered =
    by_bit (λ b. AreOrdered above s
    (rights (if b then record s.locks { line = put s.locks.line l (s.locks.line l ++ t ∷ []) } else s.locks) s.sems) s.point)
    (s.locks.held l && s.locks.parked l)
    (λ both. ordered) (λ not_both. ordered)

-- Semaphores.

-- one thread's permits of one semaphore change: the others have what they had
pub permit_others : (s : StateView) (z : Semaphores) (k t n : ℕ) → z.out ≡ put s.sems.out k (put (s.sems.out k) t n)
    → OthersWithin s (rights s.locks z) t
permit_others s z k t n is v ne = record {
  locks = λ j e. e;
  permits = λ j e.
      at_all (λ i b. 1 ≤ (if b then put (s.sems.out k) t n else s.sems.out i) v → 1 ≤ s.sems.out i v) k
      (λ has. subst (λ m. 1 ≤ m) (put_other (s.sems.out k) t n v ne) has) (λ i ne has. has) j
      (subst (λ f. 1 ≤ f j v) is e);
}

-- t takes a permit that is left
abbrev pub with_permit : Semaphores → ℕ → ℕ → Semaphores
with_permit z t k = record z { left = put z.left k (z.left k - 1); out = put z.out k (put (z.out k) t (z.out k t + 1)) }

pub sem_take_ordered : (above : ℕ → ℕ → Type 0) (s : StateView) (t k : ℕ) → IsOrdered above s → k < key_count s
    → KeepsOrder above s (SemTake t k)
    → IsOrdered above (after s (SemTake t k))
sem_take_ordered above s t k ordered key keeps =
    by_bit (λ b. AreOrdered above s (rights s.locks (if b then s.sems else with_permit s.sems t k))
    (put s.point t (if b then Seeks k else Calm))) (none_left s.sems k)
    (λ none. moved above s (held_by s) t (Seeks k) ordered (λ v ne. within_itself (held_by s v))
    (key, keeps (eqb-true (s.sems.left k) 0 none)))
    (λ some. moved above s (rights s.locks (with_permit s.sems t k)) t Calm ordered
    (permit_others s (with_permit s.sems t k) k t (s.sems.out k t + 1) refl) tt)

-- a calm thread gives a permit back
pub given_ordered : (above : ℕ → ℕ → Type 0) (s : StateView) (z : Semaphores) (t k : ℕ) → IsOrdered above s → s.point t ≡ Calm
    → z.out ≡ put s.sems.out k (put (s.sems.out k) t (s.sems.out k t - 1)) → AreOrdered above s (rights s.locks z) s.point
given_ordered above s z t k ordered calm is = calm_stayed above s _ t ordered (permit_others s z k t _ is) calm

pub sem_free_ordered : (above : ℕ → ℕ → Type 0) (s : StateView) (t k : ℕ) → IsOrdered above s → s.point t ≡ Calm
    → IsOrdered above (after s (SemFree t k))
sem_free_ordered above s t k ordered calm =
    by_bit (λ b. AreOrdered above s (rights s.locks (if b then s.sems else permit_given s.sems t k)) s.point) (s.sems.parked k)
    (λ parked. ordered)
    (λ unparked. given_ordered above s (permit_given s.sems t k) t k ordered calm refl)

pub sem_pass_ordered : (above : ℕ → ℕ → Type 0) (s : StateView) (t k : ℕ) (more : Bool) → IsOrdered above s → s.point t ≡ Calm
    → IsOrdered above (after s (SemPass t k more))
sem_pass_ordered above s t k more ordered calm =
    by_line (λ xs. AreOrdered above s (rights s.locks (seeker_woken (permit_given s.sems t k) k more xs)) s.point) (s.sems.line k)
    (λ none. given_ordered above s (permit_given s.sems t k) t k ordered calm refl)
    (λ u rest is. given_ordered above s (seeker_woken (permit_given s.sems t k) k more (u ∷ rest)) t k ordered calm refl)

pub sem_park_ordered : (above : ℕ → ℕ → Type 0) (s : StateView) (t k : ℕ) → IsOrdered above s → IsOrdered above (after s (SemPark t k))
sem_park_ordered above s t k ordered =
    by_bit (λ b. AreOrdered above s (rights s.locks (if b then with_sem_line s.sems k (s.sems.line k ++ t ∷ []) else s.sems)) s.point)
    (none_left s.sems k && s.sems.parked k)
    (λ both. ordered) (λ not_both. ordered)

-- Any event, and runs.

-- t goes to a point, and nobody's rights change
pub went_ordered : (above : ℕ → ℕ → Type 0) (s : StateView) (t : ℕ) (p : Point) → IsOrdered above s
    → InOrder above (key_count s) (held_by s t) p → AreOrdered above s (held_by s) (put s.point t p)
went_ordered above s t p ordered own = moved above s (held_by s) t p ordered (λ v ne. within_itself (held_by s v)) own

pub event_ordered : (above : ℕ → ℕ → Type 0) (s : StateView) (e : Event) → IsOrdered above s → Allowed s e → KeepsOrder above s e
    → IsOrdered above (after s e)
event_ordered above s (Try t l) ordered ok keeps = try_ordered above s t l ordered ok.2
event_ordered above s (Take t l) ordered ok keeps = take_ordered above s t l ordered ok.1 keeps
event_ordered above s (Park t l) ordered ok keeps = park_ordered above s t l ordered
event_ordered above s (Free t l) ordered ok keeps = free_ordered above s t l ordered ok.3
event_ordered above s (Pass t l fair more) ordered ok keeps = pass_ordered above s t l fair more ordered ok.4
event_ordered above s (Enlist t c l) ordered ok keeps =
    let lock = ok.2 in
    went_ordered above s t (Bed c l) ordered (omega (arith, lock), keeps)
event_ordered above s (Lower t c) ordered ok keeps = went_ordered above s t (Sweeps c) ordered tt
event_ordered above s (Sweep t c) ordered ok keeps = went_ordered above s t Calm ordered tt
event_ordered above s (SemTake t k) ordered ok keeps =
    sem_take_ordered above s t k ordered ok.1.1 keeps
event_ordered above s (SemPark t k) ordered ok keeps = sem_park_ordered above s t k ordered
event_ordered above s (SemFree t k) ordered ok keeps = sem_free_ordered above s t k ordered ok.2
event_ordered above s (SemPass t k more) ordered ok keeps = sem_pass_ordered above s t k more ordered ok.2
event_ordered above s _ ordered ok keeps = ordered

pub run_ordered : (above : ℕ → ℕ → Type 0) (s : StateView) (events : List Event) → IsOrdered above s → OrderlyRun above s events
    → Run s events × IsOrdered above (after_all s events)
run_ordered above s [] ordered run = (tt, ordered)
run_ordered above s (e ∷ events) ordered run =
    let rest = run_ordered above (after s e) events (event_ordered above s e ordered run.0 run.1) run.2 in
    ((run.0, rest.0), rest.1)
