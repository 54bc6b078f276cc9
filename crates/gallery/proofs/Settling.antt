-- What a transfer between two accounts keeps, and what the accounts have together at the end.
use Rattle.std.proofs.Common.{◌≡◌, ◌≢◌, ℕ, ◌+◌, ◌<◌, List, [], ◌∷◌, suc, length, map, get_or, set, slice_get, Some, refl, sym, ap, subst}
use Rattle.std.proofs.Common.{◌∙◌, arith}
use Rattle.std.specs.List.{sum, sum_by}
use Rattle.std.proofs.lemmas.Option.{slice_get_within}
use Rattle.std.proofs.lemmas.List.Sums.{sum_by-cons}
use Rattle.lot_words.specs.CallersRule.{CallersRule}
use Rattle.lot_sync.specs.Lot.{LotNames, LotView, PassView, HasGrown, rested}
use Rattle.lot_calls.specs.Finished.{IsFinished}
use Rattle.lot_calls.specs.Workers.{HasWorked}
use Rattle.lot_calls.proofs.Sums.{sum_below_alike, sum_of_row, sum_of_parts, sum_of_two}
use Rattle.lot_calls.proofs.Visiting.{lies_there}
use Rattle.lot_calls.proofs.Working.{has_finished}
use Rattle.gallery.specs.declared.accounts.Account.{Account}
use Rattle.gallery.specs.Accounts.{IsBooked, IsEven, Settles, moved_by, ins, outs, balance_of, opening_of, StaysOpenedAs, AreOpenedAs}

-- ---- both accounts after a transfer
pub settles_as_before : (thread : ℕ) (from into : Account) → IsBooked from → IsBooked into → Settles thread from into from into
settles_as_before thread from into f i = record {
  booked_from = f;
  booked_into = i;
  opened_from = refl;
  opened_into = refl;
  others_from = λ t else. refl;
  others_into = λ t else.
      refl;
  even = refl;
}

-- ---- what the worker's pass has seen then
-- two parts were put in place of two others, as even as before
pub even_again : (thread : ℕ) (before after : List (ℕ × ℕ)) (k l : ℕ) (from into from' into' : Account) → k < length before
    → l < length before → l ≢ k
    → ((d : ℕ × ℕ) → get_or before k d ≡ moved_by thread from) → ((d : ℕ × ℕ) → get_or before l d ≡ moved_by thread into)
    → after ≡ set (set before k (moved_by thread from')) l (moved_by thread into') → Settles thread from into from' into'
    → sum_by ins before ≡ sum_by outs before → sum_by ins after ≡ sum_by outs after
even_again thread before after k l from into from' into' near near' two was was' is settled even =
    let a =
    sum_of_two ins before k l (moved_by thread from) (moved_by thread into) (moved_by thread from')
    (moved_by thread into') near near' two was was' in
    let b =
    sum_of_two outs before k l (moved_by thread from) (moved_by thread into) (moved_by thread from')
    (moved_by thread into') near near' two was was' in
    omega (arith, a, b, ap (sum_by ins) is, ap (sum_by outs) is, settled.even, even)

-- ---- the end
-- what lies in the accounts, and was moved out of them, is what was moved into them, and lay there at the beginning
booked_all : (accounts : List Account) → ((k : ℕ) (v : Account) → slice_get accounts k ≡ Some v → IsBooked v)
    → sum_by balance_of accounts + sum_by (λ (a : Account). sum a.moved_out) accounts ≡ sum_by opening_of accounts
    + sum_by (λ (a : Account). sum a.moved_in) accounts
booked_all [] booked = refl
booked_all (x ∷ xs) booked = omega (
  arith,
  (booked 0 x refl).booked,
  booked_all xs (λ k v at. booked (suc k) v at),
  sum_by-cons balance_of x xs,
  sum_by-cons opening_of x xs,
  sum_by-cons (λ (a : Account). sum a.moved_out) x xs,
  sum_by-cons (λ (a : Account). sum a.moved_in) x xs,
)

module _ (rule : CallersRule Account (ℕ × ℕ)) (names : LotNames Account) (lot : LotView) (accounts : List Account) (called woken : List ℕ)
    (finished : IsFinished rule names lot accounts called woken)
    (keeps : (key : ℕ) (v : Account) → rule.keeps key v → IsBooked v) (part : rule.part ≡ moved_by)
    (rests : (p : PassView Account) → rule.rests (rested p) → IsEven p.thread p.seen)
    (grows : (u v : Account) → rule.grows u v → StaysOpenedAs u v) (four : lot.threads ≡ 4)
    (locks : lot.locks ≡ 4) (count : length accounts ≡ lot.locks) where
  -- the pass of a thread, as it was left
  left : (t : ℕ) → t < 4 → HasWorked rule names.values lot (λ p q. q ≡ p) accounts t
  left t near = has_finished rule names lot accounts called woken finished count t (omega (arith, near, four))

  even_left : (t : ℕ) (near : t < 4) → IsEven (left t near).after.thread (left t near).after.seen
  even_left t near =
      subst (λ (z : PassView Account). IsEven z.thread z.seen) (sym (left t near).worked)
      (rests (left t near).before (left t near).ready.rests)

  -- of each worker the accounts are even
  even_at_end : (t : ℕ) → t < 4 → sum_by ins (map (moved_by t) accounts) ≡ sum_by outs (map (moved_by t) accounts)
  even_at_end t near =
      let p : PassView Account = (left t near).after in
      let same : map (moved_by t) accounts ≡ map (moved_by p.thread) p.seen =
      subst (λ f. map (f t) accounts ≡ map (f p.thread) p.seen) part (left t near).own in
      ap (sum_by ins) same ∙ ((even_left t near).even ∙ sym (ap (sum_by outs) same))

  kept_at_end : (k : ℕ) (v : Account) → slice_get accounts k ≡ Some v → IsBooked v
  kept_at_end k v at = keeps k v ((left 0 (omega arith)).goes_on.kept k v at)

  pub opened_at_the_end : AreOpenedAs names.values accounts
  opened_at_the_end k u v first last =
      let done = left 0 (omega arith) in
      let p : PassView Account = done.after in
      let near : k < length p.seen = omega (arith, slice_get_within accounts k v last, (even_left 0 (omega arith)).count, count, locks) in
      let seen = lies_there p.seen k u near in
      let w : Account = get_or p.seen k u in
      grows u w (subst (λ (z : PassView Account). HasGrown rule.grows names.values z) (sym done.worked) done.ready.grown k u w first seen)
      ∙ grows w v (done.goes_on.grown k w v last seen)

  pub same_at_end : sum_by balance_of accounts ≡ sum_by opening_of accounts
  same_at_end =
      let out = sum_of_parts (λ (a : Account). sum a.moved_out) moved_by outs 4 accounts
      (λ k v at. sum_of_row (λ n. n) 0 v.moved_out 4 (kept_at_end k v at).out_places) in
      let inn = sum_of_parts (λ (a : Account). sum a.moved_in) moved_by ins 4 accounts
      (λ k v at. sum_of_row (λ n. n) 0 v.moved_in 4 (kept_at_end k v at).in_places) in
      let even =
      sum_below_alike 4 (λ t. sum_by ins (map (moved_by t) accounts)) (λ t. sum_by outs (map (moved_by t) accounts)) even_at_end in
      omega (arith, booked_all accounts kept_at_end, out, inn, even)
