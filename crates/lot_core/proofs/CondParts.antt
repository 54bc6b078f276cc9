-- What each condition event keeps of the condition part.
use Rattle.std.proofs.Common.{◌≡◌, ◌≢◌, ◌⊎◌, ◌<◌, ◌++◌, ℕ, Bool, true, false, List, [], ◌∷◌, length, drop, Option, Some, None}
use Rattle.std.proofs.Common.{refl, subst, sym, ap, ◌∙◌, inl, inr}
use Rattle.std.proofs.Math.Seq.{drop-nil, drop-length}
use Rattle.std.specs.Prelude.{if◌then◌else◌}
use Rattle.std.specs.List.{Contains}
use Rattle.lot_events.specs.declared.events.Event.{Event}
use Rattle.lot_events.specs.declared.events.Event.TheVariants.{Enlist, Look, Call, Lower, Sweep}
use Rattle.lot_events.specs.declared.events.Seen.{Seen}
use Rattle.lot_core.specs.Model.{put}
use Rattle.lot_core.specs.Steps.{SaysMoreBehind, flag_after_call}
use Rattle.lot_core.specs.Sound.{IsOnce, IsSoundCondPart}
use Rattle.lot_core.specs.Parts.{CondPart, IsCalmIn, CondAllowed, cond_part_after, CondStep}
use Rattle.lot_core.proofs.Put.{at_all, put_same, put_other}
use Rattle.lot_core.proofs.Members.{in_drop, once_drop}
use Rattle.lot_core.proofs.Kept.{joined, joined_once, flag_left}

module _ (n : ℕ) (a : CondPart) (h : IsSoundCondPart n a) where
  -- lines that only lost threads, where who is in one still sweeps nothing
  shrunk : (flag : ℕ → Bool) (line : ℕ → List ℕ) (sweeps : ℕ → Option ℕ) → ((d u : ℕ) → Contains (line d) u → Contains (a.conds.line d) u) →
      ((d : ℕ) → IsOnce (line d)) → ((d u : ℕ) → Contains (a.conds.line d) u → sweeps u ≡ None) →
      ((d : ℕ) → flag d ≡ false → line d ≢ [] → (t : ℕ) × (t < n) × (sweeps t ≡ Some d)) →
      IsSoundCondPart n (record { conds = record { flag = flag; line = line }; sweeps = sweeps })
  shrunk flag line sweeps less once still swept = record {
    someone_sweeps = swept;
    once = once;
    one_line = λ c d t inside there. h.one_line c d t (less c t inside) (less d t there);
    waits = λ c t inside. ((h.waits c t (less c t inside)).0, still c t (less c t inside));
  }

  -- the first k of c's line leave it
  less_dropped : (c k d u : ℕ) → Contains (put a.conds.line c (drop k (a.conds.line c)) d) u → Contains (a.conds.line d) u
  less_dropped c k d u =
      at_all (λ d b. Contains (if b then drop k (a.conds.line c) else a.conds.line d) u → Contains (a.conds.line d) u) c
      (in_drop k (a.conds.line c) u) (λ d ne inside. inside) d

  once_dropped : (c k d : ℕ) → IsOnce (put a.conds.line c (drop k (a.conds.line c)) d)
  once_dropped c k =
      at_all (λ d b. IsOnce (if b then drop k (a.conds.line c) else a.conds.line d)) c
      (once_drop k (a.conds.line c) (h.once c)) (λ d ne. h.once d)

  enlist_part : (t c l : ℕ) → t < n → IsCalmIn a t → IsSoundCondPart n (cond_part_after a (Enlist t c l))
  enlist_part t c l near calm = record {
    someone_sweeps = λ d clear some.
        at_all (λ d b. (if b then true else a.conds.flag d) ≡ false → (if b then a.conds.line c ++ t ∷ [] else a.conds.line d) ≢ [] →
        (u : ℕ) × (u < n) × (a.sweeps u ≡ Some d)) c
        (λ clear some. absurd (cc)) (λ d ne clear some. h.someone_sweeps d clear some) d clear some;
    once = joined_once a.conds.line c t h.once (calm.1 c);
    one_line = λ d e u inside there. both d e u (joined a.conds.line c t d u inside) (joined a.conds.line c t e u there);
    waits = λ d u inside. elim (joined a.conds.line c t d u inside) [
      | inl before ↦ h.waits d u before
      | inr x ↦ (subst (λ w. w < n) (sym x.1) near, ap a.sweeps x.1 ∙ calm.0)
    ];
  }
    where
      both : (d e u : ℕ) → Contains (a.conds.line d) u ⊎ ((d ≡ c) × (u ≡ t)) → Contains (a.conds.line e) u ⊎ ((e ≡ c) × (u ≡ t)) → d ≡ e
      both d e u (inl x) (inl y) = h.one_line d e u x y
      both d e u (inl x) (inr y) = absurd (calm.1 d (subst (Contains (a.conds.line d)) y.1 x))
      both d e u (inr x) (inl y) = absurd (calm.1 e (subst (Contains (a.conds.line e)) x.1 y))
      both d e u (inr x) (inr y) = x.0 ∙ sym y.0

  call_part : (t c k : ℕ) (more : Bool) → SaysMoreBehind k (a.conds.line c) more → IsSoundCondPart n (cond_part_after a (Call t c k more))
  call_part t c k more says =
      let xs : List ℕ = a.conds.line c in
      shrunk (put a.conds.flag c (flag_after_call (a.conds.flag c) more xs)) (put a.conds.line c (drop k xs)) a.sweeps
      (less_dropped c k) (once_dropped c k) (λ d u inside. (h.waits d u inside).1)
      (at_all (λ d b. (if b then flag_after_call (a.conds.flag c) more xs else a.conds.flag d) ≡ false →
      (if b then drop k xs else a.conds.line d) ≢ [] → (u : ℕ) × (u < n) × (a.sweeps u ≡ Some d)) c
      (λ clear some. h.someone_sweeps c (flag_left (a.conds.flag c) more k xs says clear some)
      (λ none. some (ap (drop k) none ∙ drop-nil k)))
      (λ d ne clear some. h.someone_sweeps d clear some))

  lower_part : (t c : ℕ) → t < n → IsCalmIn a t → IsSoundCondPart n (cond_part_after a (Lower t c))
  lower_part t c near calm =
      shrunk (put a.conds.flag c false) a.conds.line (put a.sweeps t (Some c)) (λ d u inside. inside) h.once
      (λ d u inside. put_other a.sweeps t (Some c) u (λ e. calm.1 d (subst (Contains (a.conds.line d)) e inside)) ∙ (h.waits d u inside).1)
      (at_all (λ d b. (if b then false else a.conds.flag d) ≡ false → a.conds.line d ≢ [] →
      (u : ℕ) × (u < n) × (put a.sweeps t (Some c) u ≡ Some d)) c
      (λ clear some. (t, near, put_same a.sweeps t (Some c)))
      (λ d ne clear some. let w = h.someone_sweeps d clear some in (w.0, w.1, put_other a.sweeps t (Some c) w.0 (another w.0 d w.2) ∙ w.2)))
    where
      another : (u d : ℕ) → a.sweeps u ≡ Some d → u ≢ t
      another u d is e = let none : a.sweeps u ≡ None = ap a.sweeps e ∙ calm.0 in absurd (cc)

  sweep_part : (t c : ℕ) → a.sweeps t ≡ Some c → IsSoundCondPart n (cond_part_after a (Sweep t c))
  sweep_part t c sweeps =
      let xs : List ℕ = a.conds.line c in
      shrunk a.conds.flag (put a.conds.line c (drop (length xs) xs)) (put a.sweeps t None)
      (less_dropped c (length xs)) (once_dropped c (length xs)) (λ d u inside. still u (h.waits d u inside).1)
      (at_all (λ d b. a.conds.flag d ≡ false → (if b then drop (length xs) xs else a.conds.line d) ≢ [] →
      (u : ℕ) × (u < n) × (put a.sweeps t None u ≡ Some d)) c
      (λ clear some. absurd (some (drop-length xs)))
      (λ d ne clear some. let w = h.someone_sweeps d clear some in (w.0, w.1, put_other a.sweeps t None w.0 (another w.0 d ne w.2) ∙ w.2)))
    where
      still : (u : ℕ) → a.sweeps u ≡ None → put a.sweeps t None u ≡ None
      still = at_all (λ u b. a.sweeps u ≡ None → (if b then None else a.sweeps u) ≡ None) t (λ is. refl) (λ u ne is. is)

      another : (u d : ℕ) → d ≢ c → a.sweeps u ≡ Some d → u ≢ t
      another u d ne is e = let here : a.sweeps u ≡ Some c = ap a.sweeps e ∙ sweeps in ne (let same : d ≡ c = cc in same)

-- each event that is allowed keeps the part
cond_part_kept : (threads locks conds : ℕ) (a : CondPart) (e : Event) → IsSoundCondPart threads a → CondAllowed threads locks conds a e →
    IsSoundCondPart threads (cond_part_after a e)
cond_part_kept threads locks conds a (Enlist t c l) h ok = enlist_part threads a h t c l ok.0 ok.3
cond_part_kept threads locks conds a (Look t c) h ok = h
cond_part_kept threads locks conds a (Call t c k more) h ok = call_part threads a h t c k more ok.4
cond_part_kept threads locks conds a (Lower t c) h ok = lower_part threads a h t c ok.0 ok.2
cond_part_kept threads locks conds a (Sweep t c) h ok = sweep_part threads a h t c ok.2
cond_part_kept threads locks conds a _ h ok = absurd ok

pub cond_step_sound : (threads locks conds : ℕ) (a b : CondPart) (e : Event) (saw : Seen) → CondStep threads locks conds a e saw b →
    IsSoundCondPart threads a → IsSoundCondPart threads b
cond_step_sound threads locks conds a b e saw step h =
    subst (IsSoundCondPart threads) (sym step.2) (cond_part_kept threads locks conds a e h step.0)
