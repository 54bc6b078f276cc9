-- Every event that is allowed keeps a sound state sound.
use Rattle.std.proofs.Common.{◌≡◌, ◌≢◌, ◌⊎◌, ◌+◌, ◌++◌, ℕ, Bool, true, false, List, [], ◌∷◌, refl, subst, sym, ap, ◌∙◌, inl, inr}
use Rattle.std.specs.Prelude.{◌&&◌, if◌then◌else◌}
use Rattle.std.proofs.lemmas.Bool.{and_parts}
use Rattle.std.proofs.Math.Seq.{drop-length}
use Rattle.lot_events.specs.declared.events.Point.{Point}
use Rattle.lot_events.specs.declared.events.Point.TheVariants.{Calm, Wants, Bed, Rest, Sweeps, Seeks}
use Rattle.lot_events.specs.declared.events.Event.{Event}
use Rattle.lot_events.specs.declared.events.Event.TheVariants.{Try, Take, Mark, Park, Free, Pass, Enlist, Look, Call, Lower, Sweep, SemTake}
use Rattle.lot_events.specs.declared.events.Event.TheVariants.{SemMark, SemPark, SemFree, SemPass, SemClear}
use Rattle.lot_core.specs.Rows.{row_from}
use Rattle.lot_core.specs.Model.{StateView, put, opening_with}
use Rattle.lot_core.specs.Steps.{IsThread, IsTrying, IsSeeking, MayLetGo, SaysMore, Allowed, after, Run, after_all, IsReached, passed_line}
use Rattle.lot_core.specs.Steps.{swept, handed, let_go}
use Rattle.lot_core.specs.Steps.{with_sem_parked, seeker_queued, permit_taken, permit_freed, permit_passed}
use Rattle.lot_core.specs.Sound.{IsSound}
use Rattle.lot_core.specs.Parts.{sought, semaphore_part, semaphore_part_after}
use Rattle.lot_core.proofs.Put.{by_bit, by_line, put_same, put_other}
use Rattle.lot_core.proofs.Members.{once_none, in_none}
use Rattle.lot_core.proofs.Permits.{IsKeptPart, part_opening}
use Rattle.lot_core.proofs.Following.{sought_is, part_after, semaphore_part_follows}
use Rattle.lot_core.proofs.Runs.{run_push, after_push}
use Rattle.lot_core.proofs.Kept.{IsKept, IsOutside, IsApart, calm_apart, sweeps_apart, seeks_apart, apart_outside, apart_tries_nothing}
use Rattle.lot_core.proofs.Kept.{outside_wants, outside_trying}
use Rattle.lot_core.proofs.Kept.{trying_one, trying_sweeps_nothing, sems_kept, move, move_kept, with_got, got_kept, marked_kept}
use Rattle.lot_core.proofs.Kept.{with_queued, queued_kept}
use Rattle.lot_core.proofs.Kept.{with_freed, freed_kept, with_passed_to_none, passed_to_none_kept, with_passed, passed_kept, with_handed}
use Rattle.lot_core.proofs.Kept.{handed_kept}
use Rattle.lot_core.proofs.Kept.{left_out, first_wants, let_go_kept, enlisted_kept, called_kept, lowered_kept, swept_kept}

pub try_kept : (s : StateView) (t l : ℕ) → IsKept s → IsKept (after s (Try t l))
try_kept s t l h =
    by_bit (λ b. IsKept (record s { locks = if b then s.locks else (with_got s t l).locks })) (s.locks.held l)
    (λ held. h) (λ unheld. got_kept s t l h unheld)

-- who may take l is in no line, tries no other lock and sweeps nothing
pub taker_outside : (s : StateView) (t l : ℕ) → IsKept s → ((s.point t ≡ Calm) ⊎ IsTrying s t l) → IsOutside s t
taker_outside s t l h (inl calm) = apart_outside s t Calm h calm_apart calm
taker_outside s t l h (inr try) = outside_trying s t l h try

pub taker_tries : (s : StateView) (t l k : ℕ) → ((s.point t ≡ Calm) ⊎ IsTrying s t l) → IsTrying s t k → k ≡ l
taker_tries s t l k (inl calm) try = absurd (apart_tries_nothing s t k Calm calm_apart calm try)
taker_tries s t l k (inr tries) try = trying_one s t l k tries try

pub taker_sweeps : (s : StateView) (t l c : ℕ) → ((s.point t ≡ Calm) ⊎ IsTrying s t l) → s.point t ≡ Sweeps c → ⊥
taker_sweeps s t l c (inl calm) sweeps = absurd (cc)
taker_sweeps s t l c (inr tries) sweeps = trying_sweeps_nothing s t l c tries sweeps

pub take_kept : (s : StateView) (t l : ℕ) → IsKept s → ((s.point t ≡ Calm) ⊎ IsTrying s t l) → IsKept (after s (Take t l))
take_kept s t l h may =
    by_bit (λ b. IsKept (record s {
      locks = if b then s.locks else (with_got s t l).locks;
      point = put s.point t (if b then Wants l else Calm);
    })) (s.locks.held l)
    (λ held. move_kept s t (Wants l) h (taker_outside s t l h may)
    (λ k clear try. let same : k ≡ l = taker_tries s t l k may try in
    let unheld : s.locks.held l ≡ false = subst (λ j. s.locks.held j ≡ false) same clear in absurd (cc))
    (λ c some at. taker_sweeps s t l c may at))
    (λ unheld. move_kept (with_got s t l) t Calm (got_kept s t l h unheld)
    (taker_outside (with_got s t l) t l (got_kept s t l h unheld) may)
    (λ k clear try. let same : k ≡ l = taker_tries s t l k may try in
    let held : put s.locks.held l true k ≡ true = ap (put s.locks.held l true) same ∙ put_same s.locks.held l true in absurd (cc))
    (λ c some at. taker_sweeps s t l c may at))

pub park_kept : (s : StateView) (t l : ℕ) → IsKept s → Allowed s (Park t l) → IsKept (after s (Park t l))
park_kept s t l h ok =
    by_bit (λ b. IsKept (record s { locks = if b then (with_queued s t l).locks else s.locks })) (s.locks.held l && s.locks.parked l)
    (λ both. let parts = and_parts (s.locks.held l) (s.locks.parked l) both in
    queued_kept s t l h ok.0 ok.2 ok.3 parts.0 parts.1)
    (λ not_both. h)

pub free_kept : (s : StateView) (t l : ℕ) → IsKept s → Allowed s (Free t l) → IsKept (after s (Free t l))
free_kept s t l h ok =
    by_bit (λ b. IsKept (record s {
      locks = if b then s.locks else (with_freed s t l).locks;
      point = if b then s.point else let_go s.point t;
    })) (s.locks.parked l)
    (λ parked. h)
    (λ unparked. let_go_kept (with_freed s t l) t l (freed_kept s t l h ok.2 unparked) ok.3)

-- t and the first of the line of a lock that t may let go are two threads
pub first_is_other : (s : StateView) (t l k u : ℕ) → MayLetGo s t l → s.point u ≡ Wants k → u ≢ t
first_is_other s t l k u (inl calm) wants e = let at : s.point t ≡ Wants k = subst (λ w. s.point w ≡ Wants k) e wants in absurd (cc)
first_is_other s t l k u (inr (c, bed)) wants e = let at : s.point t ≡ Wants k = subst (λ w. s.point w ≡ Wants k) e wants in absurd (cc)

-- a handoff: t lets l go, and the first of the line is calm
pub hand_over_kept : (s : StateView) (t l u : ℕ) (rest : List ℕ) → IsKept s → s.locks.has l t ≡ true → MayLetGo s t l →
    s.locks.line l ≡ u ∷ rest →
    IsKept (record s { locks = (with_handed s t l u rest).locks; point = put (let_go s.point t) u Calm })
hand_over_kept s t l u rest h has_it may is =
    let other : u ≢ t = first_is_other s t l l u may (first_wants s l u rest h is) in
    let wants : let_go s.point t u ≡ Wants l = put_other s.point t _ u other ∙ first_wants s l u rest h is in
    let freed = let_go_kept (with_handed s t l u rest) t l (handed_kept s t l u rest h has_it is) may in
    let next : StateView = record s { locks = (with_handed s t l u rest).locks; point = let_go s.point t } in
    move_kept next u Calm freed
    (outside_wants next u l freed wants (left_out s.locks.line l u rest is h.sound.one_line_each.lock_once))
    (λ k clear try. elim try [
      | inl x ↦
          let at : let_go s.point t u ≡ Wants k = x.0 in
          let same : k ≡ l = cc in
          let held : s.locks.held l ≡ true = (h.sound.one_owner.some l).1 (t, has_it) in
          let unheld : s.locks.held l ≡ false = subst (λ j. s.locks.held j ≡ false) same clear in
          absurd (cc)
      | inr x ↦ let at : let_go s.point t u ≡ Rest x.0 k = x.1 in absurd (cc)
    ])
    (λ c some at. let sweeps : let_go s.point t u ≡ Sweeps c = at in absurd (cc))

pub pass_kept : (s : StateView) (t l : ℕ) (fair more : Bool) → IsKept s → Allowed s (Pass t l fair more)
    → IsKept (after s (Pass t l fair more))
pass_kept s t l true more h ok =
    by_line (λ xs. IsKept (record s { locks = passed_line s.locks t l true more xs; point = handed (let_go s.point t) xs }))
    (s.locks.line l)
    (λ none. let_go_kept (with_passed_to_none s t l) t l (passed_to_none_kept s t l h ok.2 none) ok.4)
    (λ u rest is. hand_over_kept s t l u rest h ok.2 ok.4 is)
pass_kept s t l false more h ok =
    by_line (λ xs. IsKept (record s { locks = passed_line s.locks t l false more xs; point = let_go s.point t })) (s.locks.line l)
    (λ none. let_go_kept (with_passed_to_none s t l) t l (passed_to_none_kept s t l h ok.2 none) ok.4)
    (λ u rest is. let_go_kept (with_passed s t l more rest) t l
    (passed_kept s t l more u rest h ok.2 is (subst (λ xs. SaysMore xs more) is (ok.5 refl))) ok.4)

pub enlist_kept : (s : StateView) (t c l : ℕ) → IsKept s → IsThread s t → s.point t ≡ Calm → IsKept (after s (Enlist t c l))
enlist_kept s t c l h thread calm =
    let out : IsOutside s t = apart_outside s t Calm h calm_apart calm in
    let at_bed = move_kept s t (Bed c l) h out (λ k clear try. apart_tries_nothing s t k Calm calm_apart calm try)
    (λ d some e. absurd (cc)) in
    enlisted_kept (move s t (Bed c l)) t c l at_bed thread (put_same s.point t (Bed c l)) (record { locks = out.locks; conds = out.conds })

pub lower_kept : (s : StateView) (t c : ℕ) → IsKept s → IsThread s t → s.point t ≡ Calm → IsKept (after s (Lower t c))
lower_kept s t c h thread calm =
    lowered_kept (move s t (Sweeps c)) t c
    (move_kept s t (Sweeps c) h (apart_outside s t Calm h calm_apart calm)
    (λ k clear try. apart_tries_nothing s t k Calm calm_apart calm try) (λ d some e. absurd (cc)))
    thread (put_same s.point t (Sweeps c))

pub sweep_kept : (s : StateView) (t c : ℕ) → IsKept s → s.point t ≡ Sweeps c → IsKept (after s (Sweep t c))
sweep_kept s t c h sweeps =
    let next : StateView = record s { conds = swept s.conds c } in
    let empty : IsKept next = swept_kept s c h in
    move_kept next t Calm empty (apart_outside next t (Sweeps c) empty (sweeps_apart c) sweeps)
    (λ k clear try. apart_tries_nothing next t k (Sweeps c) (sweeps_apart c) sweeps try)
    (λ d some at.
    let same : d ≡ c = cc in
    some (ap next.conds.line same ∙ put_same s.conds.line c _ ∙ drop-length (s.conds.line c)))

-- t, which seeks what p says, goes to another point that names no lock
pub sem_take_kept : (s : StateView) (t k : ℕ) → IsKept s → ((s.point t ≡ Calm) ⊎ IsSeeking s t k) → IsKept (after s (SemTake t k))
sem_take_kept s t k h may = sems_kept (move s t _) (permit_taken s.sems t k) (from may _)
  where
    goes : (p q : Point) → IsApart p → ((c : ℕ) → p ≢ Sweeps c) → s.point t ≡ p → IsKept (move s t q)
    goes p q apart still at = move_kept s t q h (apart_outside s t p h apart at)
        (λ l clear try. apart_tries_nothing s t l p apart at try) (λ c some e. still c (sym at ∙ e))

    from : ((s.point t ≡ Calm) ⊎ IsSeeking s t k) → (q : Point) → IsKept (move s t q)
    from (inl calm) q = goes Calm q calm_apart (λ c e. absurd (cc)) calm
    from (inr x) q = goes (Seeks k) q (seeks_apart k) (λ c e. absurd (cc)) x.0

-- of locks and conditions
pub keys_kept : (s : StateView) (e : Event) → IsKept s → Allowed s e → IsKept (after s e)
keys_kept s (Try t l) h ok = try_kept s t l h
keys_kept s (Take t l) h ok = take_kept s t l h ok.2
keys_kept s (Mark t l) h ok = marked_kept s l h
keys_kept s (Park t l) h ok = park_kept s t l h ok
keys_kept s (Free t l) h ok = free_kept s t l h ok
keys_kept s (Pass t l fair more) h ok = pass_kept s t l fair more h ok
keys_kept s (Enlist t c l) h ok = enlist_kept s t c l h ok.0 ok.3
keys_kept s (Look t c) h ok = h
keys_kept s (Call t c n more) h ok = called_kept s c n more h ok.4
keys_kept s (Lower t c) h ok = lower_kept s t c h ok.0 ok.2
keys_kept s (Sweep t c) h ok = sweep_kept s t c h ok.2
keys_kept s (SemTake t k) h ok = sem_take_kept s t k h ok.2
keys_kept s (SemMark t k) h ok = sems_kept s (with_sem_parked s.sems k true) h
keys_kept s (SemPark t k) h ok = sems_kept s (seeker_queued s.sems t k) h
keys_kept s (SemFree t k) h ok = sems_kept s (permit_freed s.sems t k) h
keys_kept s (SemPass t k more) h ok = sems_kept s (permit_passed s.sems t k more) h
keys_kept s (SemClear t k) h ok = sems_kept s (with_sem_parked s.sems k false) h

-- no event changes how many threads and permits there are
pub same_numbers : (s : StateView) (e : Event) → ((after s e).threads ≡ s.threads) × ((after s e).permits ≡ s.permits)
same_numbers s (Try t l) = (refl, refl)
same_numbers s _ = (refl, refl)

-- a sound state, in its two halves
keys_sound : (s : StateView) → IsSound s → IsKept s
keys_sound s h = record {
  sound = record {
    one_owner = h.one_owner;
    sleepers_are_marked = h.sleepers_are_marked;
    someone_is_trying = h.someone_is_trying;
    someone_sweeps = h.someone_sweeps;
    one_line_each = record {
      lock_once = h.one_line_each.lock_once;
      cond_once = h.one_line_each.cond_once;
      wants = λ l t inside. (h.one_line_each.wants l t inside).1;
      waits = λ c t inside. (h.one_line_each.waits c t inside).1;
    };
  };
  known = λ l t inside. (h.one_line_each.wants l t inside).0;
  waiting = λ c t inside. (h.one_line_each.waits c t inside).0;
}

pub sems_sound : (s : StateView) → IsSound s → IsKeptPart s.threads s.permits (semaphore_part s)
sems_sound s h k = record {
  conserved = h.permits_conserved k;
  marked = h.seekers_are_marked k;
  sought = h.permits_are_sought k;
  once = h.one_line_each.sem_once k;
  named = λ t inside. let is = h.one_line_each.seeks k t inside in (is.0, ap sought is.1);
}

both_sound : (s : StateView) → IsKept s → IsKeptPart s.threads s.permits (semaphore_part s) → IsSound s
both_sound s keys sems = record {
  one_owner = keys.sound.one_owner;
  sleepers_are_marked = keys.sound.sleepers_are_marked;
  someone_is_trying = keys.sound.someone_is_trying;
  someone_sweeps = keys.sound.someone_sweeps;
  permits_conserved = λ k. (sems k).conserved;
  seekers_are_marked = λ k. (sems k).marked;
  permits_are_sought = λ k. (sems k).sought;
  one_line_each = record {
    lock_once = keys.sound.one_line_each.lock_once;
    cond_once = keys.sound.one_line_each.cond_once;
    sem_once = λ k. (sems k).once;
    wants = λ l t inside. (keys.known l t inside, keys.sound.one_line_each.wants l t inside);
    waits = λ c t inside. (keys.waiting c t inside, keys.sound.one_line_each.waits c t inside);
    seeks = λ k t inside. let is = (sems k).named t inside in (is.0, sought_is (s.point t) k is.1);
  };
}

-- the semaphores' half
sems_kept_by : (s : StateView) (e : Event) → IsSound s → Allowed s e →
    IsKeptPart (after s e).threads (after s e).permits (semaphore_part (after s e))
sems_kept_by s e h ok =
    let numbers = same_numbers s e in
    let follows : semaphore_part (after s e) ≡ semaphore_part_after (semaphore_part s) e =
    semaphore_part_follows s e (λ l t inside. (h.one_line_each.wants l t inside).1) ok in
    subst (λ n. IsKeptPart n (after s e).permits (semaphore_part (after s e))) (sym numbers.0)
    (subst (λ (p : ℕ → ℕ). IsKeptPart s.threads p (semaphore_part (after s e))) (sym numbers.1)
    (subst (IsKeptPart s.threads s.permits) (sym follows) (part_after s e (sems_sound s h) ok)))

-- an event that is allowed keeps a sound state sound, and so does a run
pub sound_kept : (s : StateView) (e : Event) → IsSound s → Allowed s e → IsSound (after s e)
sound_kept s e h ok = both_sound (after s e) (keys_kept s e (keys_sound s h) ok) (sems_kept_by s e h ok)

pub run_kept : (s : StateView) (events : List Event) → IsSound s → Run s events → IsSound (after_all s events)
run_kept s [] h run = h
run_kept s (e ∷ events) h run = run_kept (after s e) events (sound_kept s e h run.0) run.1

pub opening_sound : (threads locks conds : ℕ) (permits : List ℕ) → IsSound (opening_with threads locks conds permits)
opening_sound threads locks conds permits = both_sound (opening_with threads locks conds permits) (record {
  sound = record {
    one_owner = record { one = λ l t u a b. absurd (cc); some = λ l. ((λ e. absurd (cc)), (λ x. let e = x.1 in absurd (cc))) };
    sleepers_are_marked = λ l t inside. absurd (in_none t inside);
    someone_is_trying = λ l clear some. absurd (some refl);
    someone_sweeps = λ c clear some. absurd (some refl);
    one_line_each = record {
      lock_once = λ l. once_none;
      cond_once = λ c. once_none;
      wants = λ l t inside. absurd (in_none t inside);
      waits = λ c t inside. absurd (in_none t inside);
    };
  };
  known = λ l t inside. absurd (in_none t inside);
  waiting = λ c t inside. absurd (in_none t inside);
}) (part_opening threads (row_from 0 (locks + conds) permits))

-- every run from an opening state ends in a sound state
pub runs_are_sound : (threads locks conds : ℕ) (permits : List ℕ) (events : List Event)
    → Run (opening_with threads locks conds permits) events →
    IsSound (after_all (opening_with threads locks conds permits) events)
runs_are_sound threads locks conds permits events run =
    run_kept (opening_with threads locks conds permits) events (opening_sound threads locks conds permits) run

-- so each state that a run reaches is sound
pub reached_sound : (s : StateView) → IsReached s → IsSound s
reached_sound s h = subst IsSound (sym h.ends) (runs_are_sound h.threads h.locks h.conds h.permits h.events h.run)

pub opening_reached : (threads locks conds : ℕ) (permits : List ℕ) → IsReached (opening_with threads locks conds permits)
opening_reached threads locks conds permits =
    record { threads = threads; locks = locks; conds = conds; permits = permits; events = []; run = tt; ends = refl }

pub event_kept : (s : StateView) (e : Event) → IsReached s → Allowed s e → IsReached (after s e)
event_kept s e h ok =
    let start : StateView = opening_with h.threads h.locks h.conds h.permits in
    record {
      threads = h.threads;
      locks = h.locks;
      conds = h.conds;
      permits = h.permits;
      events = h.events ++ e ∷ [];
      run = run_push start h.events e h.run (subst (λ w. Allowed w e) h.ends ok);
      ends = ap (λ (w : StateView). after w e) h.ends ∙ sym (after_push start h.events e);
    }
