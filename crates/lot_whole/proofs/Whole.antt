-- An event that its own part allows is one of the whole, where its thread stands as it asks; and how threads stand
-- after it.
use Rattle.std.proofs.Common.{◌≡◌, ◌≢◌, ℕ, true, false, List, [], ◌∷◌, refl, sym, ap, subst, ◌∙◌}
use Rattle.std.specs.Prelude.{not, ◌+◌, if◌then◌else◌}
use Rattle.std.specs.List.{Contains}
use Rattle.lot_core.specs.Model.{StateView, put}
use Rattle.lot_core.specs.Steps.{Allowed, after, seen, released, let_go, handed, none_left, IsReached}
use Rattle.lot_core.specs.Rows.{told}
use Rattle.lot_core.specs.Parts.{AsksOfThread, LockAllowed, CondAllowed, SemaphoreAllowed, lock_part, condition_part, semaphore_part}
use Rattle.lot_core.specs.Sound.{IsSound}
use Rattle.lot_core.proofs.Law.{reached_sound}
use Rattle.lot_core.proofs.Following.{SleepersWant, lock_follows, cond_follows, semaphore_follows, lock_part_allows, cond_part_allows}
use Rattle.lot_core.proofs.Following.{semaphore_part_allows}
use Rattle.lot_core.proofs.Members.{in_head}
use Rattle.lot_core.proofs.Put.{by_bit, put_again, told_put, told_same}
use Rattle.lot_events.specs.declared.events.Point.{Point}
use Rattle.lot_events.specs.declared.events.Point.TheVariants.{Calm, Wants, Bed, Sweeps, Seeks}
use Rattle.lot_events.specs.declared.events.Event.{Event}
use Rattle.lot_events.specs.declared.events.Event.TheVariants.{Try, Take, Mark, Park, Free, Pass, Enlist, Look, Call, Lower, Sweep, SemTake}
use Rattle.lot_events.specs.declared.events.Event.TheVariants.{SemMark, SemPark, SemFree, SemPass, SemClear}
use Rattle.lot_events.specs.declared.events.Seen.{Seen}
use Rattle.lot_events.specs.declared.events.Seen.TheVariants.{Bool as Saw}
use Rattle.lot_rights.specs.History.{maker}
use Rattle.lot_rights.proofs.Puts.{put_elim}
use Rattle.lot_words.specs.CallersRule.{CallersRule}
use Rattle.lot_whole.specs.declared.views.Stand.{Stand}
use Rattle.lot_whole.specs.declared.views.Stand.TheVariants.{Idle, AtBed}
use Rattle.lot_whole.specs.Family.{Which, lock, cond, sem, LotSize, meaning_of, part_in, IsEventIn}
use Rattle.lot_whole.specs.Whole.{Joined, Joins, Stands, StandsMove, stand_of, rises, moves, HowMany, counts_in, counts_of}

-- ---- no event changes how many there are
pub counts_after : (s : StateView) (e : Event) → counts_in (after s e) ≡ counts_in s
counts_after s (Try t l) = refl
counts_after s _ = refl

-- ---- an event is of one kind
kind_of : Event → Which
kind_of (Enlist t c l) = cond
kind_of (Look t c) = cond
kind_of (Call t c n more) = cond
kind_of (Lower t c) = cond
kind_of (Sweep t c) = cond
kind_of (SemTake t k) = sem
kind_of (SemMark t k) = sem
kind_of (SemPark t k) = sem
kind_of (SemFree t k) = sem
kind_of (SemPass t k more) = sem
kind_of (SemClear t k) = sem
kind_of _ = lock

is_kind : (j : Which) (e : Event) → IsEventIn j e → kind_of e ≡ j
unfolding kind_of
is_kind lock (Try t l) is = refl
is_kind lock (Take t l) is = refl
is_kind lock (Mark t l) is = refl
is_kind lock (Park t l) is = refl
is_kind lock (Free t l) is = refl
is_kind lock (Pass t l fair more) is = refl
is_kind lock _ is = absurd is
is_kind cond (Enlist t c l) is = refl
is_kind cond (Look t c) is = refl
is_kind cond (Call t c n more) is = refl
is_kind cond (Lower t c) is = refl
is_kind cond (Sweep t c) is = refl
is_kind cond _ is = absurd is
is_kind sem (SemTake t k) is = refl
is_kind sem (SemMark t k) is = refl
is_kind sem (SemPark t k) is = refl
is_kind sem (SemFree t k) is = refl
is_kind sem (SemPass t k more) is = refl
is_kind sem (SemClear t k) is = refl
is_kind sem _ is = absurd is

one_kind : (j k : Which) (e : Event) → IsEventIn j e → IsEventIn k e → j ≡ k
one_kind j k e is here = sym (is_kind j e is) ∙ is_kind k e here

-- ---- the parts of the state after an event
module _ {V Part : Type 0} (rule : CallersRule V Part) (z : LotSize) (xs : List V) where
  others_stay : (s : StateView) (e : Event) → IsSound s → Allowed s e → (k : Which) → (IsEventIn k e → ⊥)
      → part_in rule z xs k (after s e) ≡ part_in rule z xs k s
  others_stay s e sound ok lock other = (lock_follows s e ok).stays other
  others_stay s e sound ok cond other = (cond_follows s e sound ok).stays other
  others_stay s e sound ok sem other = (semaphore_follows s e sound ok).stays other

  module _ (s : StateView) (e : Event) (saw : Seen) (reached : IsReached s) (counts : counts_in s ≡ counts_of z)
      (asks : AsksOfThread s e) where
    sound : IsSound s
    sound = reached_sound s reached

    others : (j : Which) → IsEventIn j e → Allowed s e → (k : Which) → k ≢ j → part_in rule z xs k (after s e) ≡ part_in rule z xs k s
    others j is ok k ne = others_stay s e sound ok k (λ here. ne (one_kind k j e here is))

    pub joins : (j : Which) (b : (meaning_of rule z xs j).Part) → IsEventIn j e
        → (meaning_of rule z xs j).Step (part_in rule z xs j s) e saw b → Joined rule z xs j s e saw b
    joins lock b is step =
        let here : LockAllowed s.threads s.lock_count (lock_part s) e =
        subst (λ (c : HowMany). LockAllowed c.threads c.locks (lock_part s) e) (sym counts) step.0 in
        let ok : Allowed s e = (lock_part_allows s e is).1 (here, asks) in
        let follows = (lock_follows s e ok).steps is in
        record { allowed = ok; saw_is = step.1 ∙ sym follows.1; part = follows.2 ∙ sym step.2; others = others lock is ok }
    joins cond b is step =
        let here : CondAllowed s.threads s.lock_count s.cond_count (condition_part s) e =
        subst (λ (c : HowMany). CondAllowed c.threads c.locks c.conds (condition_part s) e) (sym counts) step.0 in
        let ok : Allowed s e = (cond_part_allows s e sound is).1 (here, asks) in
        let follows = (cond_follows s e sound ok).steps is in
        record { allowed = ok; saw_is = step.1 ∙ sym follows.1; part = follows.2 ∙ sym step.2; others = others cond is ok }
    joins sem b is step =
        let here : SemaphoreAllowed s.threads (s.lock_count + s.cond_count) s.sem_count (semaphore_part s) e =
        subst (λ (c : HowMany). SemaphoreAllowed c.threads (c.locks + c.conds) c.sems (semaphore_part s) e) (sym counts) step.0 in
        let ok : Allowed s e = (semaphore_part_allows s e is).1 (here, asks) in
        let follows = (semaphore_follows s e sound ok).steps is in
        record { allowed = ok; saw_is = step.1 ∙ sym follows.1; part = follows.2 ∙ sym step.2; others = others sem is ok }

-- ---- how threads stand after an event
rises_is : (p : Point) → stand_of (released p) ≡ rises (stand_of p)
rises_is (Bed c l) = refl
rises_is _ = refl

stays_put : (s : StateView) (t : ℕ) → Stands s t s.point (stand_of (s.point t))
stays_put s t = sym (put_again (told stand_of s.point) t)

goes_to : (s : StateView) (t : ℕ) (p : Point) (to : Stand) → stand_of p ≡ to → Stands s t (put s.point t p) to
goes_to s t p to is = told_put stand_of s.point t p ∙ ap (put (told stand_of s.point) t) is

lets_go : (s : StateView) (t : ℕ) → Stands s t (let_go s.point t) (rises (stand_of (s.point t)))
lets_go s t = goes_to s t (released (s.point t)) (rises (stand_of (s.point t))) (rises_is (s.point t))

-- who is handed a lock wanted it, and stood idle
hands_over : (s : StateView) (t l : ℕ) (line : List ℕ) → ((u : ℕ) (rest : List ℕ) → line ≡ u ∷ rest → s.point u ≡ Wants l)
    → Stands s t (handed (let_go s.point t) line) (rises (stand_of (s.point t)))
hands_over s t l [] is = lets_go s t
hands_over s t l (u ∷ rest) is =
    let at : s.point u ≡ Wants l = is u rest refl in
    told_same stand_of (let_go s.point t) u Calm (sym (put_elim (λ p. stand_of p ≡ Idle) s.point t (released (s.point t)) u
    (λ e. ap (λ p. stand_of (released p)) (ap s.point (sym e) ∙ at)) (λ _. ap stand_of at)))
    ∙ lets_go s t

pub stands_move : (s : StateView) (e : Event) → SleepersWant s
    → told stand_of (after s e).point ≡ put (told stand_of s.point) (maker e) (moves e (seen s e) (stand_of (s.point (maker e))))
stands_move s (Try t l) want = stays_put s t
stands_move s (Take t l) want = goes_to s t (if s.locks.held l then Wants l else Calm) Idle
    (by_bit (λ b. stand_of (if b then Wants l else Calm) ≡ Idle) (s.locks.held l) (λ _. refl) (λ _. refl))
stands_move s (Mark t l) want = stays_put s t
stands_move s (Park t l) want = stays_put s t
stands_move s (Free t l) want =
    by_bit (λ b. Stands s t (if b then s.point else let_go s.point t) (moves (Free t l) (Saw (not b)) (stand_of (s.point t))))
    (s.locks.parked l) (λ _. stays_put s t) (λ _. lets_go s t)
stands_move s (Pass t l true more) want =
    hands_over s t l (s.locks.line l) (λ u rest is. want l u (subst (λ us. Contains us u) (sym is) (in_head u rest)))
stands_move s (Pass t l false more) want = lets_go s t
stands_move s (Enlist t c l) want = goes_to s t (Bed c l) (AtBed c l) refl
stands_move s (Look t c) want = stays_put s t
stands_move s (Call t c n more) want = stays_put s t
stands_move s (Lower t c) want = goes_to s t (Sweeps c) Idle refl
stands_move s (Sweep t c) want = goes_to s t Calm Idle refl
stands_move s (SemTake t k) want = goes_to s t (if none_left s.sems k then Seeks k else Calm) Idle
    (by_bit (λ b. stand_of (if b then Seeks k else Calm) ≡ Idle) (none_left s.sems k) (λ _. refl) (λ _. refl))
stands_move s (SemMark t k) want = stays_put s t
stands_move s (SemPark t k) want = stays_put s t
stands_move s (SemFree t k) want = stays_put s t
stands_move s (SemPass t k more) want = stays_put s t
stands_move s (SemClear t k) want = stays_put s t

-- ---- the laws
pub parts_join : {V Part : Type 0} (rule : CallersRule V Part) (z : LotSize) (xs : List V) → Joins rule z xs
parts_join rule z xs j s e saw b reached counts is asks step = joins rule z xs s e saw reached counts asks j b is step

pub all_move : StandsMove
all_move s e reached = stands_move s e (λ l t h. ((reached_sound s reached).one_line_each.wants l t h).1)
