-- A state is sound where each of its locks and conditions is.
use Rattle.std.proofs.Common.{◌≡◌, ◌≢◌, ◌<◌, ◌+◌, ◌-◌, ◌↔◌, ◌⊎◌, ℕ, Bool, true, false, add-one, List, [], ◌∷◌, Option, Some, None, is_some}
use Rattle.std.proofs.Common.{refl, sym, ap, ◌∙◌, subst, arith, inl, inr}
use Rattle.std.specs.Prelude.{IsTrue, ◌==◌}
use Rattle.std.specs.List.{Contains}
use Rattle.std.proofs.lemmas.Bool.{cases_lt, eqb-true, eq-eqb, false_from_ne_true}
use Rattle.lot_events.specs.declared.events.Point.{Point}
use Rattle.lot_events.specs.declared.events.Point.TheVariants.{Calm, Wants, Bed, Rest, Seeks}
use Rattle.lot_core.specs.declared.state.State.{State}
use Rattle.lot_core.specs.Model.{StateView}
use Rattle.lot_core.specs.Rows.{row}
use Rattle.lot_core.specs.Sums.{bit, count_below}
use Rattle.lot_core.specs.Steps.{IsSeeking}
use Rattle.lot_core.specs.Parts.{sought}
use Rattle.lot_core.specs.Semaphores.{sem_count}
use Rattle.lot_core.specs.Sound.{IsSound, OneOwner, PermitsConserved, is_seeking, Waits, IsOnce, IsSoundLock, IsSoundCond, IsSoundSemaphore}
use Rattle.lot_core.specs.State.{state_of, owns}
use Rattle.lot_core.proofs.Members.{in_none, in_head, once_none}
use Rattle.lot_core.proofs.Rows.{row_past}
use Rattle.lot_core.proofs.LineRows.{line_outside}
use Rattle.lot_core.proofs.SemaphoreRows.{conserved}
use Rattle.lot_core.proofs.Permits.{seeks_outside, seeking_is}
use Rattle.lot_core.proofs.Following.{sought_is}

-- an owner is one, and means held
pub owner_one : (o : Option ℕ) (t u : ℕ) → owns o t ≡ true → owns o u ≡ true → t ≡ u
owner_one None t u a b = absurd (cc)
owner_one (Some v) t u a b = eqb-true t v a ∙ sym (eqb-true u v b)

pub owner_some : (o : Option ℕ) → (is_some o ≡ true) ↔ ((t : ℕ) × (owns o t ≡ true))
owner_some None = ((λ e. absurd (cc)), (λ x. let e = x.1 in absurd (cc)))
owner_some (Some v) = ((λ e. (v, eq-eqb v v refl)), (λ x. refl))

pub one_owner : (s : State) → OneOwner (state_of s).locks.held (state_of s).locks.has
one_owner s = record {
  one = λ l t u. owner_one (row None s.owners.items l) t u;
  some = λ l. owner_some (row None s.owners.items l);
}

-- a thread in a line means that it is not empty
pub not_empty : (xs : List ℕ) (t : ℕ) → Contains xs t → xs ≢ []
not_empty xs t inside e = in_none t (subst (λ ys. Contains ys t) e inside)

pub first_in : (xs : List ℕ) → xs ≢ [] → (t : ℕ) × Contains xs t
first_in [] some = absurd (some refl)
first_in (u ∷ rest) some = (u, in_head u rest)

-- what holds of each lock that there is holds of all numbers
pub empty_lock : (w : StateView) (l : ℕ) → w.locks.line l ≡ [] → IsSoundLock w l
empty_lock w l empty = (
  (λ some. absurd (some empty)),
  (λ clear some. absurd (some empty)),
  subst IsOnce (sym empty) once_none,
  (λ t inside. absurd (not_empty (w.locks.line l) t inside empty)),
)

pub empty_cond : (w : StateView) (c : ℕ) → w.conds.line c ≡ [] → IsSoundCond w c
empty_cond w c empty = (
  (λ clear some. absurd (some empty)),
  subst IsOnce (sym empty) once_none,
  (λ t inside. absurd (not_empty (w.conds.line c) t inside empty)),
)

pub all_locks : (s : State) → ((k : ℕ) → k < s.locks → IsSoundLock (state_of s) k) → (l : ℕ) → IsSoundLock (state_of s) l
all_locks s each l = elim (cases_lt l s.locks) [
  | inl within ↦ each l within
  | inr past ↦ empty_lock (state_of s) l (line_outside s.lock_lines l (λ has. omega (arith, s.lock_line_each)))
]

pub all_conds : (s : State) → ((k : ℕ) → k < s.conds → IsSoundCond (state_of s) (s.locks + k)) → (c : ℕ) → IsSoundCond (state_of s) c
all_conds s each c = elim (cases_lt c s.locks) [
  | inl before ↦ empty_cond (state_of s) c (line_outside s.cond_lines c (λ has. omega (arith, s.cond_line_each)))
  | inr from ↦ elim (cases_lt (c - s.locks) s.conds) [
    | inl within ↦ let same : s.locks + (c - s.locks) ≡ c = omega arith in
        subst (λ k. IsSoundCond (state_of s) k) same (each (c - s.locks) within)
    | inr past ↦ empty_cond (state_of s) c (line_outside s.cond_lines c (λ has. omega (arith, s.cond_line_each)))
  ]
]

pub empty_semaphore : (w : StateView) (k : ℕ) → w.sems.line k ≡ [] → IsSoundSemaphore w k
empty_semaphore w k empty = (
  (λ some. absurd (some empty)),
  (λ some. absurd (some empty)),
  subst IsOnce (sym empty) once_none,
  (λ t inside. absurd (not_empty (w.sems.line k) t inside empty)),
)

pub all_semaphores : (s : State) → ((i : ℕ) → i < sem_count s.sems → IsSoundSemaphore (state_of s) (s.sems.first_sem + i)) → (k : ℕ)
    → IsSoundSemaphore (state_of s) k
all_semaphores s each k = elim (cases_lt k s.sems.first_sem) [
  | inl before ↦ empty_semaphore (state_of s) k (line_outside s.sems.lines k (λ has. omega (arith, s.sems.line_each)))
  | inr from ↦ elim (cases_lt (k - s.sems.first_sem) (sem_count s.sems)) [
    | inl within ↦ let same : s.sems.first_sem + (k - s.sems.first_sem) ≡ k = omega arith in
        subst (λ i. IsSoundSemaphore (state_of s) i) same (each (k - s.sems.first_sem) within)
    | inr past ↦ empty_semaphore (state_of s) k (line_outside s.sems.lines k (λ has. omega (arith, s.sems.line_each)))
  ]
]

-- who is not calm is a thread of the state
near : (s : State) (t : ℕ) → (state_of s).point t ≢ Calm → t < s.threads
near s t moved = elim (cases_lt t s.threads) [
  | inl within ↦ within
  | inr past ↦ absurd (moved (row_past Calm s.points.items t (omega (arith, s.point_each))))
]

waits_not_calm : (point : ℕ → Point) (c t : ℕ) → Waits point c t → point t ≢ Calm
waits_not_calm point c t (l, inl bed) e = let no : Calm ≡ Bed c l = sym e ∙ bed in absurd (cc)
waits_not_calm point c t (l, inr rest) e = let no : Calm ≡ Rest c l = sym e ∙ rest in absurd (cc)

pub sound_from : (s : State) → ((l : ℕ) → IsSoundLock (state_of s) l) → ((c : ℕ) → IsSoundCond (state_of s) c) →
    ((k : ℕ) → IsSoundSemaphore (state_of s) k) → IsSound (state_of s)
sound_from s locks conds sems = record {
  one_owner = one_owner s;
  sleepers_are_marked = λ l t inside. (locks l).0 (not_empty ((state_of s).locks.line l) t inside);
  someone_is_trying = λ l. (locks l).1;
  someone_sweeps = λ c. (conds c).0;
  permits_conserved = subst (λ n. PermitsConserved n (state_of s).permits (state_of s).sems) s.sem_each.1 (conserved s.sems);
  seekers_are_marked = λ k t inside. (sems k).0 (not_empty ((state_of s).sems.line k) t inside);
  permits_are_sought = λ k. (sems k).1;
  one_line_each = record {
    lock_once = λ l. (locks l).2;
    cond_once = λ c. (conds c).1;
    sem_once = λ k. (sems k).2;
    wants = λ l t inside.
        let is = (locks l).3 t inside in
        (near s t (λ e. let no : Calm ≡ Wants l = sym e ∙ is in absurd (cc)), is);
    waits = λ c t inside. let is = (conds c).2 t inside in (near s t (waits_not_calm (state_of s).point c t is), is);
    seeks = λ k t inside.
        let is = (sems k).3 t inside in
        (near s t (λ e. let no : Calm ≡ Seeks k = sym e ∙ is in absurd (cc)), is);
  };
}

pub locks_from : (s : State) → IsSound (state_of s) → (l : ℕ) → IsSoundLock (state_of s) l
locks_from s h l = (
  (λ some. let t = first_in ((state_of s).locks.line l) some in h.sleepers_are_marked l t.0 t.1),
  h.someone_is_trying l,
  h.one_line_each.lock_once l,
  (λ t inside. (h.one_line_each.wants l t inside).1),
)

pub conds_from : (s : State) → IsSound (state_of s) → (c : ℕ) → IsSoundCond (state_of s) c
conds_from s h c = (h.someone_sweeps c, h.one_line_each.cond_once c, (λ t inside. (h.one_line_each.waits c t inside).1))

pub semaphores_from : (s : State) → IsSound (state_of s) → (k : ℕ) → IsSoundSemaphore (state_of s) k
semaphores_from s h k = (
  (λ some. let t = first_in ((state_of s).sems.line k) some in h.seekers_are_marked k t.0 t.1),
  h.permits_are_sought k,
  h.one_line_each.sem_once k,
  (λ t inside. (h.one_line_each.seeks k t inside).1),
)

-- the test of one thread, and one more thread counted
pub seeking_test : (w : StateView) (t k : ℕ) (b : Bool) → (IsTrue b ↔ IsSeeking w t k)
    → is_seeking (sought (w.point t)) k (w.sems.line k) t ≡ b
seeking_test w t k true is = let at : IsSeeking w t k = is.0 refl in
    seeks_outside (sought (w.point t)) k (w.sems.line k) t (ap sought at.0) at.1
seeking_test w t k false is =
    false_from_ne_true (is_seeking (sought (w.point t)) k (w.sems.line k) t)
    (λ e. let at = seeking_is (sought (w.point t)) k (w.sems.line k) t e in
    let yes : false ≡ true = is.1 (sought_is (w.point t) k at.0, at.1) in absurd (cc))

pub count_more : (n : ℕ) (p : ℕ → Bool) (m next : ℕ) (b : Bool) → m ≡ count_below n p → p n ≡ b → next ≡ m + bit b
    → next ≡ count_below (n + 1) p
count_more n p m next b so is more =
    more ∙ ap (λ c. m + bit c) (sym is) ∙ ap (λ j. j + bit (p n)) so ∙ ap (λ j. count_below j p) (sym (add-one n))

-- a thread that is enlisted on w waits on that condition alone
pub enlisted_waits : (point : ℕ → Point) (t c w : ℕ) (p : Point) → point t ≡ p → ((l : ℕ) × (p ≡ Bed w l)) ⊎ ((l : ℕ) × (p ≡ Rest w l)) →
    (IsTrue (w == c) ↔ Waits point c t)
enlisted_waits point t c w p at named = ((λ e. waits_on (eqb-true w c e) named), (λ waits. is_on named waits.1))
  where
    waits_on : w ≡ c → ((l : ℕ) × (p ≡ Bed w l)) ⊎ ((l : ℕ) × (p ≡ Rest w l)) → Waits point c t
    waits_on same (inl x) = (x.0, inl (at ∙ x.1 ∙ ap (λ d. Bed d x.0) same))
    waits_on same (inr x) = (x.0, inr (at ∙ x.1 ∙ ap (λ d. Rest d x.0) same))

    is_on : {k : ℕ} → ((l : ℕ) × (p ≡ Bed w l)) ⊎ ((l : ℕ) × (p ≡ Rest w l)) → (point t ≡ Bed c k) ⊎ (point t ≡ Rest c k) → IsTrue (w == c)
    is_on (inl x) (inl e) = let is = x.1 in let same : w ≡ c = cc in eq-eqb w c same
    is_on (inl x) (inr e) = let is = x.1 in absurd (cc)
    is_on (inr x) (inl e) = let is = x.1 in absurd (cc)
    is_on (inr x) (inr e) = let is = x.1 in let same : w ≡ c = cc in eq-eqb w c same
