-- What each lock event keeps of the lock part.
use Rattle.std.proofs.Common.{◌≡◌, ◌≢◌, ◌<◌, ◌++◌, ℕ, Bool, true, false, List, [], ◌∷◌, Option, Some, None}
use Rattle.std.proofs.Common.{refl, subst, sym, ap, ◌∙◌, inl, inr}
use Rattle.std.specs.Prelude.{◌&&◌, if◌then◌else◌}
use Rattle.std.specs.List.{Contains}
use Rattle.std.proofs.lemmas.Bool.{and_parts}
use Rattle.lot_events.specs.declared.events.Event.{Event}
use Rattle.lot_events.specs.declared.events.Event.TheVariants.{Try, Take, Mark, Park, Free, Pass}
use Rattle.lot_events.specs.declared.events.Seen.{Seen}
use Rattle.lot_core.specs.Model.{put, opening_with}
use Rattle.lot_core.specs.Steps.{SaysMore, passed_line}
use Rattle.lot_core.specs.Sound.{IsOnce, IsSoundLockPart}
use Rattle.lot_core.specs.Parts.{LockPart, lock_part, MayTry, LockAllowed, lock_part_after, LockStep, served}
use Rattle.lot_core.proofs.Put.{by_bit, by_line, at_all, put_other, turned}
use Rattle.lot_core.proofs.Members.{in_tail, in_head, in_none, two_from, once_tail, head_left, once_push, once_none}
use Rattle.lot_core.proofs.Members.{each_push, unmarked_none}
use Rattle.lot_core.proofs.Owners.{IsOwned, owners, owned, owned_none, owned_got, owned_left, owned_handed}

-- of lock l, by its values: with n threads, what holds of it whatever steps led there
pub record IsKeptLock (n l : ℕ) (held parked : Bool) (line : List ℕ) (has : ℕ → Bool) (wants : ℕ → Option ℕ) : Type 0 where
  pub owned : IsOwned held has
  pub marked : (t : ℕ) → Contains line t → parked ≡ true
  pub tried : held ≡ false → line ≢ [] → (t : ℕ) × (t < n) × ((wants t ≡ Some l) × (¬ Contains line t))
  pub once : IsOnce line
  pub named : (t : ℕ) → Contains line t → (t < n) × (wants t ≡ Some l)

module _ {n l : ℕ} {held parked : Bool} {line : List ℕ} {has : ℕ → Bool} {wants : ℕ → Option ℕ}
    (h : IsKeptLock n l held parked line has wants) where
  -- t gets it unheld
  gets : (t : ℕ) → held ≡ false → IsKeptLock n l true parked line (put has t true) wants
  gets t unheld = record {
    owned = owned_got has t (subst (λ b. IsOwned b has) unheld h.owned);
    marked = h.marked;
    tried = λ clear some. absurd (cc);
    once = h.once;
    named = h.named;
  }

  -- t wants another thing, where it is not in the line and nobody needs it to try
  turns : (t : ℕ) (o : Option ℕ) → (Contains line t → ⊥) → (held ≡ false → wants t ≢ Some l) →
      IsKeptLock n l held parked line has (put wants t o)
  turns t o outside apart = record {
    owned = h.owned;
    marked = h.marked;
    tried = λ clear some.
        let w = h.tried clear some in
        (w.0, w.1, (put_other wants t o w.0 (λ e. apart clear (ap wants (sym e) ∙ w.2.0)) ∙ w.2.0, w.2.1));
    once = h.once;
    named = λ u inside.
        let is = h.named u inside in
        (is.0, put_other wants t o u (λ e. outside (subst (Contains line) e inside)) ∙ is.1);
  }

  marks : IsKeptLock n l held true line has wants
  marks = record { owned = h.owned; marked = λ t inside. refl; tried = h.tried; once = h.once; named = h.named }

  -- t goes last in the line
  queues : (t : ℕ) → held ≡ true → parked ≡ true → t < n → wants t ≡ Some l → (Contains line t → ⊥) →
      IsKeptLock n l held parked (line ++ t ∷ []) has wants
  queues t is_held is_parked near is outside = record {
    owned = h.owned;
    marked = λ u inside. is_parked;
    tried = λ clear some. absurd (cc);
    once = once_push line t h.once outside;
    named = each_push (λ u. (u < n) × (wants u ≡ Some l)) line t h.named (near, is);
  }

  -- t lets it go where nobody is queued, and the parked bit becomes this
  leaves : (t : ℕ) (bit : Bool) → has t ≡ true → line ≡ [] → IsKeptLock n l false bit line (put has t false) wants
  leaves t bit has_it empty = record {
    owned = owned_left held has t h.owned has_it;
    marked = λ u inside. absurd (in_none u (subst (λ xs. Contains xs u) empty inside));
    tried = λ clear some. absurd (some empty);
    once = h.once;
    named = h.named;
  }

  module _ (t u : ℕ) (rest : List ℕ) (has_it : has t ≡ true) (is : line ≡ u ∷ rest) where
    started : IsKeptLock n l held parked (u ∷ rest) has wants
    started = subst (λ xs. IsKeptLock n l held parked xs has wants) is h

    first_wants : (u < n) × (wants u ≡ Some l)
    first_wants = started.named u (in_head u rest)

    -- t lets it go, and the first of the line leaves it and tries
    passes : (more : Bool) → SaysMore (u ∷ rest) more → IsKeptLock n l false more rest (put has t false) wants
    passes more says = record {
      owned = owned_left held has t h.owned has_it;
      marked = λ w inside. says (two_from u rest w inside);
      tried = λ clear some. (u, first_wants.0, (first_wants.1, head_left u rest started.once));
      once = once_tail u rest started.once;
      named = λ w inside. started.named w (in_tail u rest w inside);
    }

    -- t hands it to the first of the line
    is_held : held ≡ true
    is_held = h.owned.1.1 (t, has_it)

    hands : IsKeptLock n l held parked rest (put (put has t false) u true) wants
    hands = record {
      owned = owned_handed held has t u h.owned has_it;
      marked = λ w inside. started.marked w (in_tail u rest w inside);
      tried = λ clear some. let set : held ≡ true = is_held in absurd (cc);
      once = once_tail u rest started.once;
      named = λ w inside. started.named w (in_tail u rest w inside);
    }

-- all locks of a part
abbrev pub IsKeptLockPart : ℕ → LockPart → Type 0
IsKeptLockPart n a = (l : ℕ) → IsKeptLock n l (a.locks.held l) (a.locks.parked l) (a.locks.line l) (a.locks.has l) a.wants

kept_from_sound : (n : ℕ) (a : LockPart) → IsSoundLockPart n a → IsKeptLockPart n a
kept_from_sound n a h l = record {
  owned = owned a.locks.held a.locks.has h.one_owner l;
  marked = h.sleepers_are_marked l;
  tried = h.someone_is_trying l;
  once = h.once l;
  named = h.wants l;
}

sound_from_kept : (n : ℕ) (a : LockPart) → IsKeptLockPart n a → IsSoundLockPart n a
sound_from_kept n a h = record {
  one_owner = owners a.locks.held a.locks.has (λ l. (h l).owned);
  sleepers_are_marked = λ l. (h l).marked;
  someone_is_trying = λ l. (h l).tried;
  once = λ l. (h l).once;
  wants = λ l. (h l).named;
}

module _ (n : ℕ) (a : LockPart) (h : IsKeptLockPart n a) (t l : ℕ) where
  -- lock i, where t gets l
  got_at : a.locks.held l ≡ false → (i : ℕ) →
      IsKeptLock n i (put a.locks.held l true i) (a.locks.parked i) (a.locks.line i)
      (put a.locks.has l (put (a.locks.has l) t true) i) a.wants
  got_at unheld =
      at_all (λ i b. IsKeptLock n i (if b then true else a.locks.held i) (a.locks.parked i) (a.locks.line i)
      (if b then put (a.locks.has l) t true else a.locks.has i) a.wants) l
      (gets (h l) t unheld)
      (λ i ne. h i)

  try_part : IsKeptLockPart n (lock_part_after a (Try t l))
  try_part =
      let s = a.locks in
      by_bit (λ b. IsKeptLockPart n (record a { locks = if b then s else turned s t l true })) (s.held l)
      (λ held. h) (λ unheld. got_at unheld)

  -- who may try to get l is in no line, and wants no other lock
  module _ (may : MayTry a t l) where
    aims_at : (i : ℕ) → a.wants t ≡ Some i → i ≡ l
    aims_at i is = elim may [
      | inl none ↦ absurd (cc)
      | inr x ↦ let aims : a.wants t ≡ Some l = x.0 in cc
    ]

    outside : (i : ℕ) → Contains (a.locks.line i) t → ⊥
    outside i inside = elim may [
      | inl none ↦ let is : a.wants t ≡ Some i = ((h i).named t inside).1 in absurd (cc)
      | inr x ↦ x.1 (subst (λ j. Contains (a.locks.line j) t) (aims_at i ((h i).named t inside).1) inside)
    ]

    still_held : (i : ℕ) → put a.locks.held l true i ≡ false → i ≡ l → ⊥
    still_held =
        at_all (λ i b. (if b then true else a.locks.held i) ≡ false → i ≡ l → ⊥) l (λ clear same. absurd (cc)) (λ i ne clear same. ne same)

    take_part : IsKeptLockPart n (lock_part_after a (Take t l))
    take_part =
        let s = a.locks in
        by_bit (λ b. IsKeptLockPart n (record {
          locks = if b then s else turned s t l true;
          wants = put a.wants t (if b then Some l else None);
        })) (s.held l)
        (λ held i. turns (h i) t (Some l) (outside i)
        (λ clear is. let unheld : s.held l ≡ false = subst (λ j. s.held j ≡ false) (aims_at i is) clear in absurd (cc)))
        (λ unheld i. turns (got_at unheld i) t None (outside i) (λ clear is. still_held i clear (aims_at i is)))

  mark_part : IsKeptLockPart n (lock_part_after a (Mark t l))
  mark_part =
      let s = a.locks in
      at_all (λ i b. IsKeptLock n i (s.held i) (if b then true else s.parked i) (s.line i) (s.has i) a.wants) l
      (marks (h l)) (λ i ne. h i)

  park_part : t < n → a.wants t ≡ Some l → (Contains (a.locks.line l) t → ⊥) → IsKeptLockPart n (lock_part_after a (Park t l))
  park_part near is out =
      let s = a.locks in
      by_bit (λ b. IsKeptLockPart n (record a { locks = if b then record s { line = put s.line l (s.line l ++ t ∷ []) } else s }))
      (s.held l && s.parked l)
      (λ both.
      let parts = and_parts (s.held l) (s.parked l) both in
      at_all (λ i b. IsKeptLock n i (s.held i) (s.parked i) (if b then s.line l ++ t ∷ [] else s.line i) (s.has i) a.wants) l
      (queues (h l) t parts.0 parts.1 near is out)
      (λ i ne. h i))
      (λ not_both. h)

  module _ (has_it : a.locks.has l t ≡ true) where
    -- lock i, where t lets l go and nobody is queued there
    left_at : (bit : Bool) → a.locks.line l ≡ [] → (i : ℕ) →
        IsKeptLock n i (put a.locks.held l false i) (put a.locks.parked l bit i) (a.locks.line i)
        (put a.locks.has l (put (a.locks.has l) t false) i) a.wants
    left_at bit empty =
        let s = a.locks in
        at_all (λ i b. IsKeptLock n i (if b then false else s.held i) (if b then bit else s.parked i) (s.line i)
        (if b then put (s.has l) t false else s.has i) a.wants) l
        (leaves (h l) t bit has_it empty)
        (λ i ne. h i)

    free_part : IsKeptLockPart n (lock_part_after a (Free t l))
    free_part =
        let s = a.locks in
        by_bit (λ b. IsKeptLockPart n (record a { locks = if b then s else turned s t l false })) (s.parked l)
        (λ parked. h)
        (λ unparked.
        at_all (λ i b. IsKeptLock n i (if b then false else s.held i) (s.parked i) (s.line i)
        (if b then put (s.has l) t false else s.has i) a.wants) l
        (leaves (h l) t (s.parked l) has_it (unmarked_none (s.line l) (h l).marked unparked))
        (λ i ne. h i))

    -- t passes l on to the first of its line, which it had before
    module _ (u : ℕ) (rest : List ℕ) (is : a.locks.line l ≡ u ∷ rest) where
      wants_it : a.wants u ≡ Some l
      wants_it = ((h l).named u (subst (λ xs. Contains xs u) (sym is) (in_head u rest))).1

      hand_part : IsKeptLockPart n (record {
        locks = record a.locks { line = put a.locks.line l rest; has = put a.locks.has l (put (put (a.locks.has l) t false) u true) };
        wants = put a.wants u None;
      })
      hand_part =
          let s = a.locks in
          at_all (λ i b. IsKeptLock n i (s.held i) (s.parked i) (if b then rest else s.line i)
          (if b then put (put (s.has l) t false) u true else s.has i) (put a.wants u None)) l
          (turns (hands (h l) t u rest has_it is) u None
          (head_left u rest (subst IsOnce is (h l).once))
          (λ clear e. let held : s.held l ≡ true = (h l).owned.1.1 (t, has_it) in absurd (cc)))
          (λ i ne. turns (h i) u None
          (λ inside. let wants : a.wants u ≡ Some i = ((h i).named u inside).1 in let here = wants_it in ne (let same : i ≡ l = cc in same))
          (λ clear wants. let here = wants_it in ne (let same : i ≡ l = cc in same)))

      unfair_part : (more : Bool) → SaysMore (u ∷ rest) more → IsKeptLockPart n (record a {
        locks = record a.locks {
          held = put a.locks.held l false;
          parked = put a.locks.parked l more;
          line = put a.locks.line l rest;
          has = put a.locks.has l (put (a.locks.has l) t false);
        };
      })
      unfair_part more says =
          let s = a.locks in
          at_all (λ i b. IsKeptLock n i (if b then false else s.held i) (if b then more else s.parked i) (if b then rest else s.line i)
          (if b then put (s.has l) t false else s.has i) a.wants) l
          (passes (h l) t u rest has_it is more says)
          (λ i ne. h i)

    pass_part : (fair more : Bool) → (fair ≡ false → SaysMore (a.locks.line l) more) →
        IsKeptLockPart n (lock_part_after a (Pass t l fair more))
    pass_part true more says =
        by_line (λ xs. IsKeptLockPart n (record { locks = passed_line a.locks t l true more xs; wants = served a.wants xs }))
        (a.locks.line l) (λ none. left_at false none) (λ u rest is. hand_part u rest is)
    pass_part false more says =
        by_line (λ xs. IsKeptLockPart n (record a { locks = passed_line a.locks t l false more xs })) (a.locks.line l)
        (λ none. left_at false none) (λ u rest is. unfair_part u rest is more (subst (λ xs. SaysMore xs more) is (says refl)))

-- each event that is allowed keeps the part
lock_part_kept : (threads locks : ℕ) (a : LockPart) (e : Event) → IsKeptLockPart threads a → LockAllowed threads locks a e →
    IsKeptLockPart threads (lock_part_after a e)
lock_part_kept threads locks a (Try t l) h ok = try_part threads a h t l
lock_part_kept threads locks a (Take t l) h ok = take_part threads a h t l ok.2
lock_part_kept threads locks a (Mark t l) h ok = mark_part threads a h t l
lock_part_kept threads locks a (Park t l) h ok = park_part threads a h t l ok.0 ok.2 ok.3
lock_part_kept threads locks a (Free t l) h ok = free_part threads a h t l ok.2
lock_part_kept threads locks a (Pass t l fair more) h ok = pass_part threads a h t l ok.2 fair more ok.5
lock_part_kept threads locks a _ h ok = absurd ok

pub lock_step_sound : (threads locks : ℕ) (a b : LockPart) (e : Event) (saw : Seen) → LockStep threads locks a e saw b →
    IsSoundLockPart threads a → IsSoundLockPart threads b
lock_step_sound threads locks a b e saw step h = subst (IsSoundLockPart threads) (sym step.2)
    (sound_from_kept threads (lock_part_after a e) (lock_part_kept threads locks a e (kept_from_sound threads a h) step.0))

pub lock_opening_sound : (threads locks conds : ℕ) (permits : List ℕ) →
    IsSoundLockPart threads (lock_part (opening_with threads locks conds permits))
lock_opening_sound threads locks conds permits =
    sound_from_kept threads (lock_part (opening_with threads locks conds permits)) (λ l. record {
      owned = owned_none (λ t. false) (λ u e. absurd (cc));
      marked = λ t inside. absurd (in_none t inside);
      tried = λ clear some. absurd (some refl);
      once = once_none;
      named = λ t inside. absurd (in_none t inside);
    })
