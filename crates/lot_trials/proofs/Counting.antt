-- One wait and one notification: what the passes end as, and what a ledger of both tells.
use Rattle.std.proofs.Common.{◌≡◌, ◌≢◌, ℕ, ◌+◌, ◌<◌, List, [], ◌∷◌, ◌++◌, length, slice_index, slice_index_or, slice_set, sum_by, true}
use Rattle.std.proofs.Common.{false, refl, sym, ap, subst, ◌∙◌, ⊎_elim, arith}
use Rattle.std.proofs.lemmas.List.{length-set, get_or-set_same}
use Rattle.std.proofs.lemmas.List.Sums.{sum_by-cons}
use Rattle.std.specs.List.{All, Any}
use Rattle.std.proofs.lemmas.List.Elements.{All-nil, All-cons}
use Rattle.std.proofs.lemmas.List.Quantifiers.{Any-push}
use mathlib.Core.Logic.{dite}
use native.Mathlib.Decide.{ℕ_discrete}
use Rattle.lot_words.specs.CallersRule.{CallersRule}
use Rattle.lot_waits.specs.Counts.{CountsView, wrap}
use Rattle.lot_waits.specs.Ledger.{AreSums, called_at, woken_at}
use Rattle.lot_rights.proofs.Totals.{any_cases}
use Rattle.lot_rights.proofs.Turns.{no_elements}
use Rattle.lot_sync.specs.Lot.{LotView, PassView, HeldView, ◌≈◌, OwnsNone, HasSeen, HasShape, IsLedgerOf, counts_of, letting_go}
use Rattle.lot_sync.specs.Lot.{one_wait_more, called_more}
use Rattle.lot_sync.specs.Values.{Gets, WaitsAndGets, AreSeen}
use Rattle.lot_sync.proofs.Holdings.{owns_none_again}
use Rattle.lot_trials.specs.Counting.{HasCountedNone, EndsAs}

same_seen : {V : Type 0} (p : PassView V) (v x : V) → HasSeen p 0 v → HasSeen p 0 x → v ≡ x
same_seen p v x saw has = cc

none_has : {A : Type 0} {P : A → Type 0} → Any P [] → ⊥
none_has (k, y, near, is, holds) = omega (arith, near)

-- what is counted does not change what is owned
none_still : {V : Type 0} (p q : PassView V) → q.owns ≡ p.owns → q.permits ≡ p.permits → OwnsNone p → OwnsNone q
none_still p q owns permits none = record {
  no_lock = λ k owned. none.no_lock k (subst (λ xs. slice_index_or xs k false ≡ true) owns owned);
  no_permit = λ k. ap (λ xs. slice_index xs k) permits ∙ none.no_permit k;
}

module _ {V Part : Type 0} (rule : CallersRule V Part) where
  -- it got the lock, waited with it once, and let it go
  pub ends_waited : (lot : LotView) (p q r s : PassView V) (held again : HeldView V) → OwnsNone p → Gets rule p 0 held q
      → WaitsAndGets rule q held 1 again r → s ≈ letting_go r again.key again.value
      → HasShape lot s → EndsAs lot (one_wait_more p 1) s
  ends_waited lot p q r s held again none got woke left shape = record {
    counts = ap counts_of left ∙ (ap counts_of woke.after_is ∙ ap (λ (v : PassView V). counts_of (one_wait_more v 1)) got.after_is);
    free =
        let out : PassView V = letting_go q held.key held.value in
        let first : OwnsNone out = owns_none_again p q out 0 held.key held.value held.value none got.after_is refl got.key_is in
        owns_none_again (one_wait_more out 1) r s held.key again.key again.value again.value
        (none_still out (one_wait_more out 1) refl refl first)
        woke.after_is left woke.key_is;
    shape = shape;
  }

module _ {V : Type 0} where
  -- it took one sleeper
  pub ends_called : (lot : LotView) (p q r : PassView V) → OwnsNone p → q ≈ p → r ≈ called_more q 1 1 → HasShape lot r
      → EndsAs lot (called_more p 1 1) r
  ends_called lot p q r none same took shape = record {
    counts = ap counts_of took ∙ ap (λ (v : PassView V). counts_of (called_more v 1 1)) same;
    free = none_still p r (ap (λ (v : PassView V). v.owns) took ∙ ap (λ (v : PassView V). v.owns) same)
        (ap (λ (v : PassView V). v.permits) took ∙ ap (λ (v : PassView V). v.permits) same) none;
    shape = shape;
  }

  -- two passes of two threads are those of both threads
  pub both_threads : (a b : PassView V) → a.thread < 2 → b.thread < 2 → a.thread ≢ b.thread → (t : ℕ) → t < 2
      → Any (λ (p : PassView V). p.thread ≡ t) (a ∷ b ∷ [])
  both_threads a b low high apart t near = dite (ℕ_discrete b.thread t)
      (λ e. Any-push (λ (p : PassView V). p.thread ≡ t) (a ∷ []) b e)
      (λ else. any_first (omega (arith, low, high, apart, near, else)))
    where
      any_first : a.thread ≡ t → Any (λ (p : PassView V). p.thread ≡ t) (a ∷ b ∷ [])
      any_first e = (0, a, omega arith, refl, e)

  pub both_free : (a b : PassView V) → OwnsNone a → OwnsNone b → All OwnsNone (a ∷ b ∷ [])
  both_free a b first second = All-cons OwnsNone a (b ∷ []) first (All-cons OwnsNone b [] second (All-nil OwnsNone))

  -- a pass that owned nothing owns nothing after accesses that left it as it was
  pub one_free : (p q : PassView V) → q ≈ p → OwnsNone p → All OwnsNone (q ∷ [])
  one_free p q same free =
      All-cons OwnsNone q [] (subst OwnsNone (sym same) (record { no_lock = free.no_lock; no_permit = free.no_permit })) (All-nil OwnsNone)

-- ---- the ledger of two passes and one condition
one_alone : (xs : List ℕ) → length xs ≡ 1 → slice_index xs 0 ≡ 1 → xs ≡ 1 ∷ []
one_alone [] long is = absurd (omega (arith, long))
one_alone (x ∷ []) long is = ap (λ y. y ∷ []) is
one_alone (x ∷ y ∷ ys) long is = absurd (omega (arith, long))

-- a list in which the number at 1 was none, and was raised by one
raised_at : (xs : List ℕ) → length (slice_set xs 1 (slice_index xs 1 + 1)) ≡ 2 → slice_index xs 1 ≡ 0
    → slice_index (slice_set xs 1 (slice_index xs 1 + 1)) 1 ≡ 1
raised_at xs long none =
    get_or-set_same xs 1 (slice_index xs 1 + 1) 0 (omega (arith, long, length-set xs 1 (slice_index xs 1 + 1))) ∙ ap (λ n. n + 1) none

module _ {V : Type 0} (lot : LotView) (first second a b : PassView V) (one_lock : lot.locks ≡ 1) (one_cond : lot.conds ≡ 1)
    (waited : EndsAs lot (one_wait_more first 1) a) (called : EndsAs lot (called_more second 1 1) b)
    (first_none : HasCountedNone 1 first) (second_none : HasCountedNone 1 second) where
  sum_is : (count_at : ℕ → CountsView → ℕ) (sums : List ℕ) → AreSums lot.locks lot.conds count_at (counts_of a ∷ counts_of b ∷ []) sums
      → count_at 1 (counts_of a) + count_at 1 (counts_of b) ≡ 1 → sums ≡ 1 ∷ []
  sum_is count_at sums are one = one_alone sums (are.long ∙ one_cond)
      (are.each 0 (omega (arith, one_cond))
      ∙ (ap (λ n. wrap (sum_by (count_at (n + 0)) (counts_of a ∷ counts_of b ∷ []))) one_lock ∙ ap wrap total))
    where
      total : sum_by (count_at 1) (counts_of a ∷ counts_of b ∷ []) ≡ 1
      total = omega (arith, sum_by-cons (count_at 1) (counts_of a) (counts_of b ∷ []), sum_by-cons (count_at 1) (counts_of b) [], one)

  wide_a : length a.woken ≡ 2
  wide_a = omega (arith, waited.shape.woken, one_lock, one_cond)

  wide_b : length b.called ≡ 2
  wide_b = omega (arith, called.shape.called, one_lock, one_cond)

  called_sum : called_at 1 (counts_of a) + called_at 1 (counts_of b) ≡ 1
  called_sum =
      let of_a : called_at 1 (counts_of a) ≡ 0 = ap (called_at 1) waited.counts ∙ first_none.0 in
      let is : b.called ≡ slice_set second.called 1 (slice_index second.called 1 + 1) = ap (λ (q : CountsView). q.called) called.counts in
      let of_b : called_at 1 (counts_of b) ≡ 1 =
      ap (λ xs. slice_index xs 1) is ∙ raised_at second.called (sym (ap length is) ∙ wide_b) second_none.0 in
      omega (arith, of_a, of_b)

  woken_sum : woken_at 1 (counts_of a) + woken_at 1 (counts_of b) ≡ 1
  woken_sum =
      let is : a.woken ≡ slice_set first.woken 1 (slice_index first.woken 1 + 1) = ap (λ (q : CountsView). q.woken) waited.counts in
      let of_a : woken_at 1 (counts_of a) ≡ 1 =
      ap (λ xs. slice_index xs 1) is ∙ raised_at first.woken (sym (ap length is) ∙ wide_a) first_none.1 in
      let of_b : woken_at 1 (counts_of b) ≡ 0 = ap (woken_at 1) called.counts ∙ second_none.1 in
      omega (arith, of_a, of_b)

  -- one sleeper was taken, and one wait ended
  pub tells_one : (taken ended : List ℕ) → IsLedgerOf lot (a ∷ b ∷ []) taken ended → (taken ≡ 1 ∷ []) × (ended ≡ 1 ∷ [])
  tells_one taken ended ledger = (sum_is called_at taken ledger.called_sums called_sum, sum_is woken_at ended ledger.woken_sums woken_sum)

module _ {V : Type 0} where
  -- two passes that were pushed, where none was before
  pub gathered : (xs ys zs : List (PassView V)) (pair : PassView V × PassView V) (a b : PassView V) → length xs ≡ 0
      → ys ≡ xs ++ pair.0 ∷ [] → zs ≡ ys ++ pair.1 ∷ [] → (pair.0 ≡ a) × (pair.1 ≡ b) → zs ≡ a ∷ b ∷ []
  gathered xs ys zs pair a b none one two same =
      two
      ∙ (ap (λ vs. vs ++ pair.1 ∷ []) one
      ∙ (ap (λ vs. (vs ++ pair.0 ∷ []) ++ pair.1 ∷ []) (no_elements xs none)
      ∙ (ap (λ v. v ∷ pair.1 ∷ []) same.0 ∙ ap (λ v. a ∷ v ∷ []) same.1)))

  -- a pass that was pushed, where none was before
  pub alone : (xs ys : List (PassView V)) (p : PassView V) → length xs ≡ 0 → ys ≡ xs ++ p ∷ [] → ys ≡ p ∷ []
  alone xs ys p none one = one ∙ ap (λ vs. vs ++ p ∷ []) (no_elements xs none)

  -- one value that comes back is what the one pass saw last
  pub only_value : (values : List V) (ps : List (PassView V)) (p : PassView V) (x : V) → length values ≡ 1 → ps ≡ p ∷ []
      → AreSeen values ps → HasSeen p 0 x → values ≡ x ∷ []
  only_value [] ps p x long are seen has = absurd (omega (arith, long))
  only_value (v ∷ w ∷ vs) ps p x long are seen has = absurd (omega (arith, long))
  only_value (v ∷ []) ps p x long are seen has =
      let some_saw = subst (Any (λ (q : PassView V). HasSeen q 0 v)) are (seen 0 v refl) in
      ⊎_elim {C = v ∷ [] ≡ x ∷ []} (λ saw. ap (λ y. y ∷ []) (same_seen p v x saw has)) (λ nobody. absurd (none_has nobody))
      (any_cases (λ (q : PassView V). HasSeen q 0 v) p [] some_saw)

  -- it is of the thread that it was of
  pub same_thread : (lot : LotView) (wanted after : PassView V) → EndsAs lot wanted after → after.thread ≡ wanted.thread
  same_thread lot wanted after ends = ap (λ (q : CountsView). q.thread) ends.counts
