-- What each single change of a state keeps.
use Rattle.std.proofs.Common.{◌≡◌, ◌≢◌, ◌⊎◌, ◌++◌, ℕ, Bool, true, false, List, [], ◌∷◌, length, drop, refl, subst, sym, ap, ◌∙◌, inl, inr}
use Rattle.std.proofs.Math.Seq.{drop-nil, drop-length}
use Rattle.std.specs.Prelude.{if◌then◌else◌}
use Rattle.std.specs.List.{Contains}
use Rattle.std.proofs.lemmas.List.Elements.{Contains-push_cases}
use Rattle.std.proofs.lemmas.Bool.{cases_eq, and_cases}
use Rattle.lot_events.specs.declared.events.Point.{Point}
use Rattle.lot_events.specs.declared.events.Point.TheVariants.{Calm, Wants, Bed, Rest, Sweeps, Seeks}
use Rattle.lot_core.specs.Model.{StateView, Semaphores, put}
use Rattle.lot_core.specs.Steps.{IsThread, IsTrying, MayLetGo, SaysMore, SaysMoreBehind, enlisted, dequeued, flag_after_call, called, swept}
use Rattle.lot_core.specs.Steps.{released, let_go}
use Rattle.lot_core.specs.Sound.{Waits, OneOwner, SleepersAreMarked, SomeoneIsTrying, SomeoneSweeps, IsOnce}
use Rattle.lot_core.proofs.Put.{by_line, at_all, put_same, put_other}
use Rattle.lot_core.proofs.Members.{in_tail, in_head, in_none, in_drop, some_behind, two_from, once_tail, once_drop, head_left, once_push}
use Rattle.lot_core.proofs.Owners.{owners_got, owners_left, owners_handed}

-- a thread is in one line of a lock or a condition at most, once, and its point names that line's key
pub record OneKeyEach (lock_line cond_line : ℕ → List ℕ) (point : ℕ → Point) : Type 0 where
  pub lock_once : (l : ℕ) → IsOnce (lock_line l)
  pub cond_once : (c : ℕ) → IsOnce (cond_line c)
  pub wants : (l t : ℕ) → Contains (lock_line l) t → point t ≡ Wants l
  pub waits : (c t : ℕ) → Contains (cond_line c) t → Waits point c t

-- what a sound state says of its locks and conditions
pub record AreKeysSound (s : StateView) : Type 0 where
  pub one_owner : OneOwner s.locks.held s.locks.has
  pub sleepers_are_marked : SleepersAreMarked s.locks.line s.locks.parked
  pub someone_is_trying : SomeoneIsTrying s
  pub someone_sweeps : SomeoneSweeps s
  pub one_line_each : OneKeyEach s.locks.line s.conds.line s.point

-- with it, only threads of the state stand in their lines
pub record IsKept (s : StateView) : Type 0 where
  pub sound : AreKeysSound s
  pub known : (l t : ℕ) → Contains (s.locks.line l) t → IsThread s t
  pub waiting : (c t : ℕ) → Contains (s.conds.line c) t → IsThread s t

-- it says nothing of the semaphores
pub sems_kept : (s : StateView) (z : Semaphores) → IsKept s → IsKept (record s { sems = z })
sems_kept s z h = record {
  sound = record {
    one_owner = h.sound.one_owner;
    sleepers_are_marked = h.sound.sleepers_are_marked;
    someone_is_trying = h.sound.someone_is_trying;
    someone_sweeps = h.sound.someone_sweeps;
    one_line_each = h.sound.one_line_each;
  };
  known = h.known;
  waiting = h.waiting;
}

-- t is in no line of a lock or a condition
pub record IsOutside (s : StateView) (t : ℕ) : Type 0 where
  pub locks : (l : ℕ) → Contains (s.locks.line l) t → ⊥
  pub conds : (c : ℕ) → Contains (s.conds.line c) t → ⊥

-- a point that names no lock
pub record IsApart (p : Point) : Type 0 where
  pub wants : (l : ℕ) → p ≢ Wants l
  pub bed : (c l : ℕ) → p ≢ Bed c l
  pub rest : (c l : ℕ) → p ≢ Rest c l

pub calm_apart : IsApart Calm
calm_apart = record { wants = λ l e. absurd (cc); bed = λ c l e. absurd (cc); rest = λ c l e. absurd (cc) }

pub sweeps_apart : (c : ℕ) → IsApart (Sweeps c)
sweeps_apart d = record { wants = λ l e. absurd (cc); bed = λ c l e. absurd (cc); rest = λ c l e. absurd (cc) }

pub seeks_apart : (k : ℕ) → IsApart (Seeks k)
seeks_apart k = record { wants = λ l e. absurd (cc); bed = λ c l e. absurd (cc); rest = λ c l e. absurd (cc) }

-- a thread at such a point is in no line, and tries to get no lock
pub apart_outside : (s : StateView) (t : ℕ) (p : Point) → IsKept s → IsApart p → s.point t ≡ p → IsOutside s t
apart_outside s t p h apart at = record {
  locks = λ l inside. apart.wants l (sym at ∙ h.sound.one_line_each.wants l t inside);
  conds = λ c inside. waits_not c (h.sound.one_line_each.waits c t inside);
}
  where
    waits_not : (c : ℕ) → Waits s.point c t → ⊥
    waits_not c (l, inl e) = apart.bed c l (sym at ∙ e)
    waits_not c (l, inr e) = apart.rest c l (sym at ∙ e)

pub apart_tries_nothing : (s : StateView) (t k : ℕ) (p : Point) → IsApart p → s.point t ≡ p → IsTrying s t k → ⊥
apart_tries_nothing s t k p apart at (inl x) = apart.wants k (sym at ∙ x.0)
apart_tries_nothing s t k p apart at (inr x) = apart.rest x.0 k (sym at ∙ x.1)

pub outside_wants : (s : StateView) (t l : ℕ) → IsKept s → s.point t ≡ Wants l → (Contains (s.locks.line l) t → ⊥) → IsOutside s t
outside_wants s t l h wants out = record {
  locks = λ k inside.
      let e : s.point t ≡ Wants k = h.sound.one_line_each.wants k t inside in
      let same : k ≡ l = cc in
      out (subst (λ j. Contains (s.locks.line j) t) same inside);
  conds = λ d inside. elim (h.sound.one_line_each.waits d t inside).1 [ inl e ↦ absurd (cc) | inr e ↦ absurd (cc) ];
}

pub outside_rests : (s : StateView) (t c l : ℕ) → IsKept s → s.point t ≡ Rest c l → (Contains (s.conds.line c) t → ⊥) → IsOutside s t
outside_rests s t c l h rests out = record {
  locks = λ k inside. let e : s.point t ≡ Wants k = h.sound.one_line_each.wants k t inside in absurd (cc);
  conds = λ d inside. elim (h.sound.one_line_each.waits d t inside).1 [
    | inl e ↦ absurd (cc)
    | inr e ↦ let same : d ≡ c = cc in out (subst (λ j. Contains (s.conds.line j) t) same inside)
  ];
}

pub outside_trying : (s : StateView) (t l : ℕ) → IsKept s → IsTrying s t l → IsOutside s t
outside_trying s t l h (inl x) = outside_wants s t l h x.0 x.1
outside_trying s t l h (inr x) = outside_rests s t x.0 l h x.1 x.2

-- a thread tries to get one lock at most
pub trying_one : (s : StateView) (t l k : ℕ) → IsTrying s t l → IsTrying s t k → k ≡ l
trying_one s t l k (inl x) (inl y) = let a = x.0 in let b = y.0 in cc
trying_one s t l k (inl x) (inr y) = let a = x.0 in let b = y.1 in absurd (cc)
trying_one s t l k (inr x) (inl y) = let a = x.1 in let b = y.0 in absurd (cc)
trying_one s t l k (inr x) (inr y) = let a = x.1 in let b = y.1 in cc

pub bed_tries_nothing : (s : StateView) (t c l k : ℕ) → s.point t ≡ Bed c l → IsTrying s t k → ⊥
bed_tries_nothing s t c l k bed (inl x) = let a = x.0 in absurd (cc)
bed_tries_nothing s t c l k bed (inr x) = let a = x.1 in absurd (cc)

pub trying_sweeps_nothing : (s : StateView) (t l c : ℕ) → IsTrying s t l → s.point t ≡ Sweeps c → ⊥
trying_sweeps_nothing s t l c try sweeps = apart_tries_nothing s t l (Sweeps c) (sweeps_apart c) sweeps try

-- t's point becomes p
abbrev pub move : StateView → ℕ → Point → StateView
move s t p = record s { point = put s.point t p }

pub trying_moved : (s : StateView) (t u k : ℕ) (p : Point) → u ≢ t → IsTrying s u k → IsTrying (move s t p) u k
trying_moved s t u k p ne (inl x) = inl (put_other s.point t p u ne ∙ x.0, x.1)
trying_moved s t u k p ne (inr x) = inr (x.0, put_other s.point t p u ne ∙ x.1, x.2)

pub waits_moved : (point : ℕ → Point) (t u c : ℕ) (p : Point) → u ≢ t → Waits point c u → Waits (put point t p) c u
waits_moved point t u c p ne (l, inl e) = (l, inl (put_other point t p u ne ∙ e))
waits_moved point t u c p ne (l, inr e) = (l, inr (put_other point t p u ne ∙ e))

-- a thread in no line, whom nobody needs where it stands, may go to any point
pub move_kept : (s : StateView) (t : ℕ) (p : Point) → IsKept s → IsOutside s t →
    ((k : ℕ) → s.locks.held k ≡ false → IsTrying s t k → ⊥) →
    ((c : ℕ) → s.conds.line c ≢ [] → s.point t ≡ Sweeps c → ⊥) → IsKept (move s t p)
move_kept s t p h out tries sweeps = record {
  sound = record {
    one_owner = h.sound.one_owner;
    sleepers_are_marked = h.sound.sleepers_are_marked;
    someone_is_trying = λ l unheld some.
        let w = h.sound.someone_is_trying l unheld some in
        (w.0, w.1, trying_moved s t w.0 l p (λ e. tries l unheld (subst (λ u. IsTrying s u l) e w.2)) w.2);
    someone_sweeps = λ c clear some.
        let w = h.sound.someone_sweeps c clear some in
        (w.0, w.1, put_other s.point t p w.0 (λ e. sweeps c some (subst (λ u. s.point u ≡ Sweeps c) e w.2)) ∙ w.2);
    one_line_each = record {
      lock_once = h.sound.one_line_each.lock_once;
      cond_once = h.sound.one_line_each.cond_once;
      wants = λ l u inside.
          put_other s.point t p u (λ e. out.locks l (subst (λ w. Contains (s.locks.line l) w) e inside))
          ∙ h.sound.one_line_each.wants l u inside;
      waits = λ c u inside.
          waits_moved s.point t u c p (λ e. out.conds c (subst (λ w. Contains (s.conds.line c) w) e inside))
          (h.sound.one_line_each.waits c u inside);
    };
  };
  known = h.known;
  waiting = h.waiting;
}

-- t gets the unheld lock l
abbrev pub with_got : StateView → ℕ → ℕ → StateView
with_got s t l =
    record s { locks = record s.locks { held = put s.locks.held l true; has = put s.locks.has l (put (s.locks.has l) t true) } }

pub held_before : (held : ℕ → Bool) (l k : ℕ) → put held l true k ≡ false → held k ≡ false
held_before held l k = at_all (λ k b. (if b then true else held k) ≡ false → held k ≡ false) l (λ e. absurd (cc)) (λ k ne e. e) k

pub got_kept : (s : StateView) (t l : ℕ) → IsKept s → s.locks.held l ≡ false → IsKept (with_got s t l)
got_kept s t l h unheld = record {
  sound = record {
    one_owner = owners_got s.locks.held s.locks.has l t h.sound.one_owner unheld;
    sleepers_are_marked = h.sound.sleepers_are_marked;
    someone_is_trying = λ k clear some. h.sound.someone_is_trying k (held_before s.locks.held l k clear) some;
    someone_sweeps = h.sound.someone_sweeps;
    one_line_each = h.sound.one_line_each;
  };
  known = h.known;
  waiting = h.waiting;
}

-- l is parked now
pub marked_kept : (s : StateView) (l : ℕ) → IsKept s → IsKept (record s { locks = record s.locks { parked = put s.locks.parked l true } })
marked_kept s l h = record {
  sound = record {
    one_owner = h.sound.one_owner;
    sleepers_are_marked = λ k t inside.
        at_all (λ k b. Contains (s.locks.line k) t → (if b then true else s.locks.parked k) ≡ true) l (λ inside. refl)
        (λ k ne inside. h.sound.sleepers_are_marked k t inside) k inside;
    someone_is_trying = h.sound.someone_is_trying;
    someone_sweeps = h.sound.someone_sweeps;
    one_line_each = h.sound.one_line_each;
  };
  known = h.known;
  waiting = h.waiting;
}

-- t goes last in l's line
abbrev pub with_queued : StateView → ℕ → ℕ → StateView
with_queued s t l = record s { locks = record s.locks { line = put s.locks.line l (s.locks.line l ++ t ∷ []) } }

-- who is in a line that t joined was there before, or is t
pub joined : (line : ℕ → List ℕ) (l t k u : ℕ) → Contains (put line l (line l ++ t ∷ []) k) u →
    Contains (line k) u ⊎ ((k ≡ l) × (u ≡ t))
joined line l t k u =
    at_all (λ k b. Contains (if b then line l ++ t ∷ [] else line k) u → Contains (line k) u ⊎ ((k ≡ l) × (u ≡ t))) l
    (λ inside. elim (Contains-push_cases (line l) t u inside) [ inl a ↦ inl a | inr e ↦ inr (refl, sym e) ])
    (λ k ne inside. inl inside) k

pub joined_once : (line : ℕ → List ℕ) (l t : ℕ) → ((k : ℕ) → IsOnce (line k)) → (Contains (line l) t → ⊥) → (k : ℕ) →
    IsOnce (put line l (line l ++ t ∷ []) k)
joined_once line l t once out =
    at_all (λ k b. IsOnce (if b then line l ++ t ∷ [] else line k)) l (once_push (line l) t (once l) out) (λ k ne. once k)

pub queued_kept : (s : StateView) (t l : ℕ) → IsKept s → IsThread s t → s.point t ≡ Wants l → (Contains (s.locks.line l) t → ⊥) →
    s.locks.held l ≡ true → s.locks.parked l ≡ true → IsKept (with_queued s t l)
queued_kept s t l h thread wants out held parked = record {
  sound = record {
    one_owner = h.sound.one_owner;
    sleepers_are_marked = λ k u inside. elim (joined s.locks.line l t k u inside) [
      | inl a ↦ h.sound.sleepers_are_marked k u a
      | inr x ↦ ap s.locks.parked x.0 ∙ parked
    ];
    someone_is_trying = λ k clear.
        at_all (λ k b. s.locks.held k ≡ false → (if b then s.locks.line l ++ t ∷ [] else s.locks.line k) ≢ [] →
        (u : ℕ) × IsThread s u × (((s.point u ≡ Wants k) × (Contains (if b then s.locks.line l ++ t ∷ [] else s.locks.line k) u → ⊥))
        ⊎ ((c : ℕ) × (s.point u ≡ Rest c k) × (Contains (s.conds.line c) u → ⊥)))) l
        (λ clear some. absurd (cc)) (λ k ne clear some. h.sound.someone_is_trying k clear some) k clear;
    someone_sweeps = h.sound.someone_sweeps;
    one_line_each = record {
      lock_once = joined_once s.locks.line l t h.sound.one_line_each.lock_once out;
      cond_once = h.sound.one_line_each.cond_once;
      wants = λ k u inside. elim (joined s.locks.line l t k u inside) [
        | inl a ↦ h.sound.one_line_each.wants k u a
        | inr x ↦ ap s.point x.1 ∙ wants ∙ ap Wants (sym x.0)
      ];
      waits = h.sound.one_line_each.waits;
    };
  };
  known = λ k u inside. elim (joined s.locks.line l t k u inside) [
    | inl a ↦ h.known k u a
    | inr x ↦ subst (λ w. IsThread s w) (sym x.1) thread
  ];
  waiting = h.waiting;
}

-- nobody is in the line of an unmarked lock
pub unmarked_line : (s : StateView) (l : ℕ) → IsKept s → s.locks.parked l ≡ false → s.locks.line l ≡ []
unmarked_line s l h unparked = by_line (λ xs. xs ≡ []) (s.locks.line l) (λ e. refl) (λ u rest e.
    let marked : s.locks.parked l ≡ true =
    h.sound.sleepers_are_marked l u (subst (λ xs. Contains xs u) (sym e) (in_head u rest)) in
    absurd (cc))

-- t lets the unparked lock l go
abbrev pub with_freed : StateView → ℕ → ℕ → StateView
with_freed s t l =
    record s { locks = record s.locks { held = put s.locks.held l false; has = put s.locks.has l (put (s.locks.has l) t false) } }

pub freed_kept : (s : StateView) (t l : ℕ) → IsKept s → s.locks.has l t ≡ true → s.locks.parked l ≡ false → IsKept (with_freed s t l)
freed_kept s t l h has_it unparked = record {
  sound = record {
    one_owner = owners_left s.locks.held s.locks.has l t h.sound.one_owner has_it;
    sleepers_are_marked = h.sound.sleepers_are_marked;
    someone_is_trying = λ k clear some.
        at_all (λ k b. (if b then false else s.locks.held k) ≡ false → s.locks.line k ≢ [] → (u : ℕ) × IsThread s u × IsTrying s u k) l
        (λ clear some. absurd (some (unmarked_line s l h unparked)))
        (λ k ne clear some. h.sound.someone_is_trying k clear some) k clear some;
    someone_sweeps = h.sound.someone_sweeps;
    one_line_each = h.sound.one_line_each;
  };
  known = h.known;
  waiting = h.waiting;
}

-- t passes l on where its line is empty
abbrev pub with_passed_to_none : StateView → ℕ → ℕ → StateView
with_passed_to_none s t l =
    record s {
      locks = record s.locks {
        held = put s.locks.held l false;
        parked = put s.locks.parked l false;
        has = put s.locks.has l (put (s.locks.has l) t false);
      };
    }

pub passed_to_none_kept : (s : StateView) (t l : ℕ) → IsKept s → s.locks.has l t ≡ true → s.locks.line l ≡ []
    → IsKept (with_passed_to_none s t l)
passed_to_none_kept s t l h has_it empty = record {
  sound = record {
    one_owner = owners_left s.locks.held s.locks.has l t h.sound.one_owner has_it;
    sleepers_are_marked = λ k u inside.
        at_all (λ k b. Contains (s.locks.line k) u → (if b then false else s.locks.parked k) ≡ true) l
        (λ inside. absurd (in_none u (subst (λ xs. Contains xs u) empty inside)))
        (λ k ne inside. h.sound.sleepers_are_marked k u inside) k inside;
    someone_is_trying = λ k clear some.
        at_all (λ k b. (if b then false else s.locks.held k) ≡ false → s.locks.line k ≢ [] → (u : ℕ) × IsThread s u × IsTrying s u k) l
        (λ clear some. absurd (some empty))
        (λ k ne clear some. h.sound.someone_is_trying k clear some) k clear some;
    someone_sweeps = h.sound.someone_sweeps;
    one_line_each = h.sound.one_line_each;
  };
  known = h.known;
  waiting = h.waiting;
}

-- the first of a line leaves it
pub left : (line : ℕ → List ℕ) (l u : ℕ) (rest : List ℕ) → line l ≡ u ∷ rest → (k w : ℕ)
    → Contains (put line l rest k) w → Contains (line k) w
left line l u rest is k w =
    at_all (λ k b. Contains (if b then rest else line k) w → Contains (line k) w) l
    (λ inside. subst (λ xs. Contains xs w) (sym is) (in_tail u rest w inside)) (λ k ne inside. inside) k

pub left_once : (line : ℕ → List ℕ) (l u : ℕ) (rest : List ℕ) → line l ≡ u ∷ rest → ((k : ℕ) → IsOnce (line k)) → (k : ℕ)
    → IsOnce (put line l rest k)
left_once line l u rest is once =
    at_all (λ k b. IsOnce (if b then rest else line k)) l (once_tail u rest (subst IsOnce is (once l))) (λ k ne. once k)

-- the first of a line is not in it once it left
pub left_out : (line : ℕ → List ℕ) (l u : ℕ) (rest : List ℕ) → line l ≡ u ∷ rest → ((k : ℕ) → IsOnce (line k))
    → Contains (put line l rest l) u → ⊥
left_out line l u rest is once inside =
    head_left u rest (subst IsOnce is (once l)) (subst (λ xs. Contains xs u) (put_same line l rest) inside)

pub first_wants : (s : StateView) (l u : ℕ) (rest : List ℕ) → IsKept s → s.locks.line l ≡ u ∷ rest → s.point u ≡ Wants l
first_wants s l u rest h is = h.sound.one_line_each.wants l u (subst (λ xs. Contains xs u) (sym is) (in_head u rest))

pub first_known : (s : StateView) (l u : ℕ) (rest : List ℕ) → IsKept s → s.locks.line l ≡ u ∷ rest → IsThread s u
first_known s l u rest h is = h.known l u (subst (λ xs. Contains xs u) (sym is) (in_head u rest))

-- the lock lines where l's first has left
pub lines_left : (s : StateView) (l u : ℕ) (rest : List ℕ) → IsKept s → s.locks.line l ≡ u ∷ rest →
    OneKeyEach (put s.locks.line l rest) s.conds.line s.point
lines_left s l u rest h is = record {
  lock_once = left_once s.locks.line l u rest is h.sound.one_line_each.lock_once;
  cond_once = h.sound.one_line_each.cond_once;
  wants = λ k w inside. h.sound.one_line_each.wants k w (left s.locks.line l u rest is k w inside);
  waits = h.sound.one_line_each.waits;
}

-- who tries to get another lock than l still does after a change of l's line
pub trying_beside : (s : StateView) (l k u : ℕ) (xs : List ℕ) → k ≢ l → IsTrying s u k →
    IsTrying (record s { locks = record s.locks { line = put s.locks.line l xs } }) u k
trying_beside s l k u xs ne (inl x) =
    inl (x.0, subst (λ ys. Contains ys u → ⊥) (sym (put_other s.locks.line l xs k ne)) x.1)
trying_beside s l k u xs ne (inr x) = inr x

-- t passes l on to nobody, and takes its first u from the line
abbrev pub with_passed : StateView → ℕ → ℕ → Bool → List ℕ → StateView
with_passed s t l more rest =
    record s {
      locks = record s.locks {
        held = put s.locks.held l false;
        parked = put s.locks.parked l more;
        line = put s.locks.line l rest;
        has = put s.locks.has l (put (s.locks.has l) t false);
      };
    }

pub passed_kept : (s : StateView) (t l : ℕ) (more : Bool) (u : ℕ) (rest : List ℕ) → IsKept s → s.locks.has l t ≡ true →
    s.locks.line l ≡ u ∷ rest → SaysMore (u ∷ rest) more → IsKept (with_passed s t l more rest)
passed_kept s t l more u rest h has_it is says = record {
  sound = record {
    one_owner = owners_left s.locks.held s.locks.has l t h.sound.one_owner has_it;
    sleepers_are_marked = λ k w inside.
        at_all (λ k b. Contains (if b then rest else s.locks.line k) w → (if b then more else s.locks.parked k) ≡ true) l
        (λ inside. says (two_from u rest w inside))
        (λ k ne inside. h.sound.sleepers_are_marked k w inside) k inside;
    someone_is_trying = λ k clear some. elim (cases_eq k l) [
      | inl e ↦ (
        u,
        first_known s l u rest h is,
        inl (
          first_wants s l u rest h is ∙ ap Wants (sym e),
          subst (λ j. Contains (put s.locks.line l rest j) u → ⊥) (sym e)
              (left_out s.locks.line l u rest is h.sound.one_line_each.lock_once),
        ),
      )
      | inr ne ↦
          let w = h.sound.someone_is_trying k (sym (put_other s.locks.held l false k ne) ∙ clear)
          (λ e. some (put_other s.locks.line l rest k ne ∙ e)) in
          (w.0, w.1, trying_beside s l k w.0 rest ne w.2)
    ];
    someone_sweeps = h.sound.someone_sweeps;
    one_line_each = lines_left s l u rest h is;
  };
  known = λ k w inside. h.known k w (left s.locks.line l u rest is k w inside);
  waiting = h.waiting;
}

-- t hands l to the first of its line
abbrev pub with_handed : StateView → ℕ → ℕ → ℕ → List ℕ → StateView
with_handed s t l u rest =
    record s {
      locks = record s.locks {
        line = put s.locks.line l rest;
        has = put s.locks.has l (put (put (s.locks.has l) t false) u true);
      };
    }

pub handed_kept : (s : StateView) (t l u : ℕ) (rest : List ℕ) → IsKept s → s.locks.has l t ≡ true →
    s.locks.line l ≡ u ∷ rest → IsKept (with_handed s t l u rest)
handed_kept s t l u rest h has_it is = record {
  sound = record {
    one_owner = owners_handed s.locks.held s.locks.has l t u h.sound.one_owner has_it;
    sleepers_are_marked = λ k w inside. h.sound.sleepers_are_marked k w (left s.locks.line l u rest is k w inside);
    someone_is_trying = λ k clear some. elim (cases_eq k l) [
      | inl e ↦
          let held : s.locks.held l ≡ true = (h.sound.one_owner.some l).1 (t, has_it) in
          let unheld : s.locks.held l ≡ false = subst (λ j. s.locks.held j ≡ false) e clear in
          absurd (cc)
      | inr ne ↦
          let w = h.sound.someone_is_trying k clear (λ e. some (put_other s.locks.line l rest k ne ∙ e)) in
          (w.0, w.1, trying_beside s l k w.0 rest ne w.2)
    ];
    someone_sweeps = h.sound.someone_sweeps;
    one_line_each = lines_left s l u rest h is;
  };
  known = λ k w inside. h.known k w (left s.locks.line l u rest is k w inside);
  waiting = h.waiting;
}

-- a thread at the bed of c rests on c once it let go
pub rests_now : (s : StateView) (t c l d : ℕ) → s.point t ≡ Bed c l → Waits s.point d t → (u : ℕ) → u ≡ t →
    Waits (put s.point t (Rest c l)) d u
rests_now s t c l d bed (k, inl e) u is =
    let same : c ≡ d = cc in
    (l, inr (ap (put s.point t (Rest c l)) is ∙ put_same s.point t (Rest c l) ∙ ap (λ e. Rest e l) same))
rests_now s t c l d bed (k, inr e) u is = absurd (cc)

-- t, which may let a lock go, stands where it stands then
pub let_go_kept : (s : StateView) (t l : ℕ) → IsKept s → MayLetGo s t l → IsKept (record s { point = let_go s.point t })
let_go_kept s t l h (inl calm) =
    subst (λ p. IsKept (move s t p)) (ap released (sym calm))
    (move_kept s t Calm h (apart_outside s t Calm h calm_apart calm) (λ k clear try. apart_tries_nothing s t k Calm calm_apart calm try)
    (λ c some e. absurd (cc)))
let_go_kept s t l h (inr (c, bed)) = subst (λ p. IsKept (move s t p)) (ap released (sym bed)) (record {
  sound = record {
    one_owner = h.sound.one_owner;
    sleepers_are_marked = h.sound.sleepers_are_marked;
    someone_is_trying = λ k clear some.
        let w = h.sound.someone_is_trying k clear some in
        (w.0, w.1, trying_moved s t w.0 k (Rest c l) (λ e. bed_tries_nothing s t c l k bed (subst (λ u. IsTrying s u k) e w.2)) w.2);
    someone_sweeps = λ d clear some.
        let w = h.sound.someone_sweeps d clear some in (
          w.0,
          w.1,
          put_other s.point t (Rest c l) w.0 (λ e. let is : s.point t ≡ Sweeps d = subst (λ u. s.point u ≡ Sweeps d) e w.2 in absurd (cc))
              ∙ w.2,
        );
    one_line_each = record {
      lock_once = h.sound.one_line_each.lock_once;
      cond_once = h.sound.one_line_each.cond_once;
      wants = λ k u inside.
          let is : s.point u ≡ Wants k = h.sound.one_line_each.wants k u inside in
          put_other s.point t (Rest c l) u (λ e. let at : s.point t ≡ Wants k = subst (λ w. s.point w ≡ Wants k) e is in absurd (cc)) ∙ is;
      waits = λ d u inside. elim (cases_eq u t) [
        | inl e ↦ rests_now s t c l d bed (subst (λ w. Waits s.point d w) e (h.sound.one_line_each.waits d u inside)) u e
        | inr ne ↦ waits_moved s.point t u d (Rest c l) ne (h.sound.one_line_each.waits d u inside)
      ];
    };
  };
  known = h.known;
  waiting = h.waiting;
})

-- who tries to get a lock still does where another, at c's bed, joined c's line
pub trying_enlisted : (s : StateView) (t c l u k : ℕ) → s.point t ≡ Bed c l → IsTrying s u k →
    IsTrying (record s { conds = enlisted s.conds t c }) u k
trying_enlisted s t c l u k bed (inl x) = inl x
trying_enlisted s t c l u k bed (inr x) =
    inr (
      x.0,
      x.1,
      λ inside. elim (joined s.conds.line c t x.0 u inside) [
        | inl a ↦ x.2 a
        | inr y ↦ let at : s.point t ≡ Rest x.0 k = subst (λ w. s.point w ≡ Rest x.0 k) y.1 x.1 in absurd (cc)
      ],
    )

-- t goes last in c's line and sets its flag
abbrev pub with_enlisted : StateView → ℕ → ℕ → StateView
with_enlisted s t c = record s { conds = enlisted s.conds t c }

pub enlisted_kept : (s : StateView) (t c l : ℕ) → IsKept s → IsThread s t → s.point t ≡ Bed c l → IsOutside s t →
    IsKept (with_enlisted s t c)
enlisted_kept s t c l h thread bed out = record {
  sound = record {
    one_owner = h.sound.one_owner;
    sleepers_are_marked = h.sound.sleepers_are_marked;
    someone_is_trying = λ k clear some.
        let w = h.sound.someone_is_trying k clear some in
        (w.0, w.1, trying_enlisted s t c l w.0 k bed w.2);
    someone_sweeps = λ d clear some.
        at_all (λ d b. (if b then true else s.conds.flag d) ≡ false → (if b then s.conds.line c ++ t ∷ [] else s.conds.line d) ≢ [] →
        (u : ℕ) × IsThread s u × (s.point u ≡ Sweeps d)) c
        (λ clear some. absurd (cc)) (λ d ne clear some. h.sound.someone_sweeps d clear some) d clear some;
    one_line_each = record {
      lock_once = h.sound.one_line_each.lock_once;
      cond_once = joined_once s.conds.line c t h.sound.one_line_each.cond_once (out.conds c);
      wants = h.sound.one_line_each.wants;
      waits = λ d u inside. elim (joined s.conds.line c t d u inside) [
        | inl a ↦ h.sound.one_line_each.waits d u a
        | inr x ↦ (l, inl (ap s.point x.1 ∙ bed ∙ ap (λ d. Bed d l) (sym x.0)))
      ];
    };
  };
  known = h.known;
  waiting = λ d u inside. elim (joined s.conds.line c t d u inside) [
    | inl a ↦ h.waiting d u a
    | inr x ↦ subst (λ w. IsThread s w) (sym x.1) thread
  ];
}

-- who tries to get a lock still does where lines of conditions only lost threads
pub trying_shrunk : (s : StateView) (flag : ℕ → Bool) (line : ℕ → List ℕ) → ((d u : ℕ) → Contains (line d) u
    → Contains (s.conds.line d) u) →
    (u k : ℕ) → IsTrying s u k → IsTrying (record s { conds = record { flag = flag; line = line } }) u k
trying_shrunk s flag line less u k (inl x) = inl x
trying_shrunk s flag line less u k (inr x) = inr (x.0, x.1, λ inside. x.2 (less x.0 u inside))

-- lines of conditions that only lost threads, each without a sweeper only where its flag is set or its line empty
pub conds_kept : (s : StateView) (flag : ℕ → Bool) (line : ℕ → List ℕ) → IsKept s →
    ((d u : ℕ) → Contains (line d) u → Contains (s.conds.line d) u) → ((d : ℕ) → IsOnce (line d)) →
    ((d : ℕ) → flag d ≡ false → line d ≢ [] → (t : ℕ) × IsThread s t × (s.point t ≡ Sweeps d)) →
    IsKept (record s { conds = record { flag = flag; line = line } })
conds_kept s flag line h less once sweeps = record {
  sound = record {
    one_owner = h.sound.one_owner;
    sleepers_are_marked = h.sound.sleepers_are_marked;
    someone_is_trying = λ k clear some.
        let w = h.sound.someone_is_trying k clear some in
        (w.0, w.1, trying_shrunk s flag line less w.0 k w.2);
    someone_sweeps = sweeps;
    one_line_each = record {
      lock_once = h.sound.one_line_each.lock_once;
      cond_once = once;
      wants = h.sound.one_line_each.wants;
      waits = λ d u inside. h.sound.one_line_each.waits d u (less d u inside);
    };
  };
  known = h.known;
  waiting = λ d u inside. h.waiting d u (less d u inside);
}

-- the first n of c's line leave it, and each flag is clear only where it may be
pub dequeued_kept : (s : StateView) (flag : ℕ → Bool) (c n : ℕ) → IsKept s →
    ((d : ℕ) → flag d ≡ false → put s.conds.line c (drop n (s.conds.line c)) d ≢ [] → (t : ℕ) × IsThread s t × (s.point t ≡ Sweeps d)) →
    IsKept (record s { conds = record (dequeued s.conds c n) { flag = flag } })
dequeued_kept s flag c n h =
    conds_kept s flag (put s.conds.line c (drop n (s.conds.line c))) h
    (λ d u. at_all (λ d b. Contains (if b then drop n (s.conds.line c) else s.conds.line d) u → Contains (s.conds.line d) u) c
    (in_drop n (s.conds.line c) u) (λ d ne inside. inside) d)
    (at_all (λ d b. IsOnce (if b then drop n (s.conds.line c) else s.conds.line d)) c
    (once_drop n (s.conds.line c) (h.sound.one_line_each.cond_once c)) (λ d ne. h.sound.one_line_each.cond_once d))

-- a flag that a Call leaves clear before sleepers was clear before
pub flag_left : (flag more : Bool) (n : ℕ) (xs : List ℕ) → SaysMoreBehind n xs more → flag_after_call flag more xs ≡ false
    → drop n xs ≢ [] → flag ≡ false
flag_left flag more n [] says clear some = absurd (some (drop-nil n))
flag_left flag more n (u ∷ rest) says clear some = elim (and_cases flag more clear) [
  | inl e ↦ e
  | inr e ↦ let said : more ≡ true = says (some_behind n (u ∷ rest) some) in absurd (cc)
]

pub called_kept : (s : StateView) (c n : ℕ) (more : Bool) → IsKept s → SaysMoreBehind n (s.conds.line c) more →
    IsKept (record s { conds = called s.conds c n more })
called_kept s c n more h says =
    let xs : List ℕ = s.conds.line c in
    dequeued_kept s (put s.conds.flag c (flag_after_call (s.conds.flag c) more xs)) c n h
    (at_all (λ d b. (if b then flag_after_call (s.conds.flag c) more xs else s.conds.flag d) ≡ false
    → (if b then drop n xs else s.conds.line d) ≢ [] →
    (t : ℕ) × IsThread s t × (s.point t ≡ Sweeps d)) c
    (λ clear some. h.sound.someone_sweeps c (flag_left (s.conds.flag c) more n xs says clear some)
    (λ none. some (ap (drop n) none ∙ drop-nil n)))
    (λ d ne clear some. h.sound.someone_sweeps d clear some))

pub lowered_kept : (s : StateView) (t c : ℕ) → IsKept s → IsThread s t → s.point t ≡ Sweeps c →
    IsKept (record s { conds = record s.conds { flag = put s.conds.flag c false } })
lowered_kept s t c h thread at =
    conds_kept s (put s.conds.flag c false) s.conds.line h (λ d u inside. inside) h.sound.one_line_each.cond_once
    (at_all (λ d b. (if b then false else s.conds.flag d) ≡ false → s.conds.line d ≢ [] → (t : ℕ) × IsThread s t × (s.point t ≡ Sweeps d)) c
    (λ clear some. (t, thread, at)) (λ d ne clear some. h.sound.someone_sweeps d clear some))

pub swept_kept : (s : StateView) (c : ℕ) → IsKept s → IsKept (record s { conds = swept s.conds c })
swept_kept s c h =
    let xs : List ℕ = s.conds.line c in
    dequeued_kept s s.conds.flag c (length xs) h
    (at_all (λ d b. s.conds.flag d ≡ false → (if b then drop (length xs) xs else s.conds.line d) ≢ [] → (t : ℕ) × IsThread s t
    × (s.point t ≡ Sweeps d)) c
    (λ clear some. absurd (some (drop-length xs))) (λ d ne clear some. h.sound.someone_sweeps d clear some))
