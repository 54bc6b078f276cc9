-- The parts of a state are sound, each by itself.
use Rattle.std.proofs.Common.{◌≡◌, ℕ, List, [], ◌∷◌, None, refl, subst, sym, ap, ◌∙◌, inl, inr}
use Rattle.lot_events.specs.declared.events.Point.{Point}
use Rattle.lot_events.specs.declared.events.Point.TheVariants.{Bed, Rest}
use Rattle.lot_events.specs.declared.events.Event.{Event}
use Rattle.lot_events.specs.declared.events.Event.TheVariants.{Try, Take, Mark, Park, Free, Pass}
use Rattle.lot_core.specs.Model.{StateView, opening_with}
use Rattle.lot_core.specs.Steps.{Allowed, Run, after, after_all, IsReached}
use Rattle.lot_core.specs.Sound.{IsSound, Waits, IsSoundLockPart, IsSoundCondPart, IsSoundSemaphorePart, ArePartsSound}
use Rattle.lot_core.specs.Parts.{swept_by, lock_part, condition_part, semaphore_part, lock_part_after, lock_seen, LockPart, IsLockEvent}
use Rattle.lot_core.proofs.Permits.{part_sound}
use Rattle.lot_core.proofs.LockParts.{lock_step_sound, lock_opening_sound}
use Rattle.lot_core.proofs.Following.{lock_allowed, lock_part_follows}
use Rattle.lot_core.proofs.Law.{sems_sound, same_numbers, opening_sound, reached_sound}

-- a thread waits on one condition
one_wait : (point : ℕ → Point) (c d t : ℕ) → Waits point c t → Waits point d t → c ≡ d
one_wait point c d t (l, inl e) (k, inl f) = let same : Bed c l ≡ Bed d k = sym e ∙ f in cc
one_wait point c d t (l, inl e) (k, inr f) = let same : Bed c l ≡ Rest d k = sym e ∙ f in absurd (cc)
one_wait point c d t (l, inr e) (k, inl f) = let same : Rest c l ≡ Bed d k = sym e ∙ f in absurd (cc)
one_wait point c d t (l, inr e) (k, inr f) = let same : Rest c l ≡ Rest d k = sym e ∙ f in cc

waits_still : (point : ℕ → Point) (c t : ℕ) → Waits point c t → swept_by (point t) ≡ None
waits_still point c t (l, inl bed) = ap swept_by bed
waits_still point c t (l, inr rest) = ap swept_by rest

cond_part_sound : (s : StateView) → IsSound s → IsSoundCondPart s.threads (condition_part s)
cond_part_sound s h = record {
  someone_sweeps = λ c clear some. let w = h.someone_sweeps c clear some in (w.0, w.1, ap swept_by w.2);
  once = h.one_line_each.cond_once;
  one_line = λ c d t inside there. one_wait s.point c d t (h.one_line_each.waits c t inside).1 (h.one_line_each.waits d t there).1;
  waits = λ c t inside. let is = h.one_line_each.waits c t inside in (is.0, waits_still s.point c t is.1);
}

semaphore_part_sound : (s : StateView) → IsSound s → IsSoundSemaphorePart s.threads s.permits (semaphore_part s)
semaphore_part_sound s h = part_sound s.threads s.permits (semaphore_part s) (sems_sound s h)

pub whole_parts_sound : (s : StateView) → IsSound s →
    IsSoundCondPart s.threads (condition_part s) × IsSoundSemaphorePart s.threads s.permits (semaphore_part s)
whole_parts_sound s h = (cond_part_sound s h, semaphore_part_sound s h)

-- an event of the whole keeps the lock part sound
lock_stepped : (s : StateView) (e : Event) → IsSoundLockPart s.threads (lock_part s) → Allowed s e → IsLockEvent e →
    IsSoundLockPart s.threads (lock_part_after (lock_part s) e)
lock_stepped s e h ok is =
    let a : LockPart = lock_part s in
    lock_step_sound s.threads s.lock_count a (lock_part_after a e) e (lock_seen a e) (lock_allowed s e ok is, refl, refl) h

lock_after : (s : StateView) (e : Event) → IsSoundLockPart s.threads (lock_part s) → Allowed s e →
    IsSoundLockPart s.threads (lock_part_after (lock_part s) e)
lock_after s (Try t l) h ok = lock_stepped s (Try t l) h ok tt
lock_after s (Take t l) h ok = lock_stepped s (Take t l) h ok tt
lock_after s (Mark t l) h ok = lock_stepped s (Mark t l) h ok tt
lock_after s (Park t l) h ok = lock_stepped s (Park t l) h ok tt
lock_after s (Free t l) h ok = lock_stepped s (Free t l) h ok tt
lock_after s (Pass t l fair more) h ok = lock_stepped s (Pass t l fair more) h ok tt
lock_after s _ h ok = h

lock_kept : (s : StateView) (e : Event) → IsSoundLockPart s.threads (lock_part s) → Allowed s e →
    IsSoundLockPart (after s e).threads (lock_part (after s e))
lock_kept s e h ok =
    subst (λ n. IsSoundLockPart n (lock_part (after s e))) (sym (same_numbers s e).0)
    (subst (IsSoundLockPart s.threads) (sym (lock_part_follows s e ok)) (lock_after s e h ok))

lock_run_kept : (s : StateView) (events : List Event) → IsSoundLockPart s.threads (lock_part s) → Run s events →
    IsSoundLockPart (after_all s events).threads (lock_part (after_all s events))
lock_run_kept s [] h run = h
lock_run_kept s (e ∷ events) h run = lock_run_kept (after s e) events (lock_kept s e h run.0) run.1

lock_reached : (s : StateView) → IsReached s → IsSoundLockPart s.threads (lock_part s)
lock_reached s h =
    let start : StateView = opening_with h.threads h.locks h.conds h.permits in
    subst (λ (w : StateView). IsSoundLockPart w.threads (lock_part w)) (sym h.ends)
    (lock_run_kept start h.events (lock_opening_sound h.threads h.locks h.conds h.permits) h.run)

pub reached_parts : (s : StateView) → IsReached s → ArePartsSound s
reached_parts s h = record {
  locks = lock_reached s h;
  conds = cond_part_sound s (reached_sound s h);
  sems = semaphore_part_sound s (reached_sound s h);
}

pub opening_parts : (threads locks conds : ℕ) (permits : List ℕ) → ArePartsSound (opening_with threads locks conds permits)
opening_parts threads locks conds permits =
    let s : StateView = opening_with threads locks conds permits in
    let h : IsSound s = opening_sound threads locks conds permits in
    record { locks = lock_opening_sound threads locks conds permits; conds = cond_part_sound s h; sems = semaphore_part_sound s h }
