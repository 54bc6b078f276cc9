-- Sums over values that have a part for each thread.
use Rattle.std.proofs.Common.{◌≡◌, ◌≢◌, ℕ, ◌+◌, ◌*◌, ◌<◌, ◌≤◌, List, [], ◌∷◌, zero, suc, length, length-set, map, replicate, get_or, set}
use Rattle.std.proofs.Common.{get_or-set_other, slice_get, Some, refl, sym, ap, ◌∙◌, arith}
use Rattle.std.specs.List.{sum_by}
use Rattle.std.proofs.lemmas.List.Sums.{sum_by-cons, sum_by-set, get_or-le-sum_by}
use Rattle.std.proofs.lemmas.List.Folds.{sum_by-replicate}
use Rattle.lot_words.specs.CallersRule.{CallersRule}
use Rattle.lot_sync.specs.Lot.{PassView}
use Rattle.lot_calls.specs.Visits.{own_parts, Visits}

-- the sum of the first n numbers of a sequence
abbrev pub sum_below : ℕ → (ℕ → ℕ) → ℕ
sum_below zero f = 0
sum_below (suc n) f = f 0 + sum_below n (λ t. f (suc t))

pub sum_below_alike : (n : ℕ) (f g : ℕ → ℕ) → ((t : ℕ) → t < n → f t ≡ g t) → sum_below n f ≡ sum_below n g
sum_below_alike zero f g same = refl
sum_below_alike (suc n) f g same =
    let rest = sum_below_alike n (λ t. f (suc t)) (λ t. g (suc t)) (λ t near. same (suc t) (omega (arith, near))) in
    omega (arith, same 0 (omega arith), rest)

sum_below_none : (n : ℕ) → sum_below n (λ t. 0) ≡ 0
sum_below_none zero = refl
sum_below_none (suc n) = omega (arith, sum_below_none n)

sum_below_both : (n : ℕ) (f g : ℕ → ℕ) → sum_below n (λ t. f t + g t) ≡ sum_below n f + sum_below n g
sum_below_both zero f g = refl
sum_below_both (suc n) f g = omega (arith, sum_below_both n (λ t. f (suc t)) (λ t. g (suc t)))

-- a sum over a list of so many
pub sum_of_row : {B : Type 0} (g : B → ℕ) (d : B) (row : List B) (n : ℕ) → length row ≡ n
    → sum_by g row ≡ sum_below n (λ t. g (get_or row t d))
sum_of_row g d [] zero long = refl
sum_of_row g d [] (suc n) long = absurd (omega (arith, long))
sum_of_row g d (x ∷ xs) zero long = absurd (omega (arith, long))
sum_of_row g d (x ∷ xs) (suc n) long = omega (arith, sum_by-cons g x xs, sum_of_row g d xs n (omega (arith, long)))

-- a sum over values, each of which is the sum of its parts, is the sum of what the parts of each thread come to
pub sum_of_parts : {A Part : Type 0} (all : A → ℕ) (part : ℕ → A → Part) (h : Part → ℕ) (n : ℕ) (xs : List A)
    → ((k : ℕ) (v : A) → slice_get xs k ≡ Some v → all v ≡ sum_below n (λ t. h (part t v)))
    → sum_by all xs ≡ sum_below n (λ t. sum_by h (map (part t) xs))
sum_of_parts all part h n [] each = sym (sum_below_none n)
sum_of_parts all part h n (x ∷ xs) each =
    let first = each 0 x refl in
    let rest = sum_of_parts all part h n xs (λ k v at. each (suc k) v at) in
    let both = sum_below_both n (λ t. h (part t x)) (λ t. sum_by h (map (part t) xs)) in
    let same = sum_below_alike n (λ t. sum_by h (map (part t) (x ∷ xs))) (λ t. h (part t x) + sum_by h (map (part t) xs))
    (λ t near. sum_by-cons h (part t x) (map (part t) xs)) in
    omega (arith, sum_by-cons all x xs, first, rest, both, same)

-- two parts were put in place of two others
pub sum_of_two : {Part : Type 0} (h : Part → ℕ) (ms : List Part) (k l : ℕ) (a b x y : Part) → k < length ms → l < length ms → l ≢ k
    → ((d : Part) → get_or ms k d ≡ a) → ((d : Part) → get_or ms l d ≡ b)
    → sum_by h (set (set ms k x) l y) + (h a + h b) ≡ sum_by h ms + (h x + h y)
sum_of_two h ms k l a b x y near near' two was was' =
    let one = sum_by-set h ms k x x near in
    let other = sum_by-set h (set ms k x) l y x (omega (arith, near', length-set ms k x)) in
    let at = get_or-set_other ms k l x x two in
    omega (arith, one, other, ap h (was x), ap h (at ∙ was' x))

sum_of_map : {A B : Type 0} (f : A → B) (h : B → ℕ) (xs : List A) → sum_by h (map f xs) ≡ sum_by (λ x. h (f x)) xs
sum_of_map f h [] = refl
sum_of_map f h (x ∷ xs) = omega (arith, sum_by-cons h (f x) (map f xs), sum_by-cons (λ y. h (f y)) x xs, sum_of_map f h xs)

-- values that are alike, of which a part comes to nothing
pub sum_of_none : {A Part : Type 0} (part : A → Part) (h : Part → ℕ) (n : ℕ) (x : A) → h (part x) ≡ 0
    → sum_by h (map part (replicate n x)) ≡ 0
sum_of_none part h n x none =
    let all = sum_by-replicate (λ y. h (part y)) n x in
    let each = ap (λ m. n * m) none in
    omega (arith, sum_of_map part h (replicate n x), all, each)

-- what a visit adds to what the pass's own parts come to; what it found there is within that
pub sum_after_visit : {V Part : Type 0} (rule : CallersRule V Part) (h : Part → ℕ) (before after : PassView V) (key : ℕ) (found left : V)
    → Visits rule before key found left after
    → (sum_by h (own_parts rule after) + h (rule.part before.thread found) ≡ sum_by h (own_parts rule before)
    + h (rule.part before.thread left))
    × (h (rule.part before.thread found) ≤ sum_by h (own_parts rule before))
sum_after_visit rule h before after key found left visits =
    let set = sum_by-set h (own_parts rule before) key (rule.part before.thread left) (rule.part before.thread found) visits.own_near in
    let was = ap h (visits.own_was (rule.part before.thread found)) in
    let within = get_or-le-sum_by h (own_parts rule before) key (rule.part before.thread found) visits.own_near in (
      omega (arith, set, was, ap (sum_by h) visits.own_is),
      omega (arith, was, within),
    )

-- a visit that adds so much to what the pass's own part of the value comes to, where there is room for it
pub more_after_visit : {V Part : Type 0} (rule : CallersRule V Part) (h : Part → ℕ) (before after : PassView V) (key : ℕ)
    (found left : V) (c room : ℕ)
    → Visits rule before key found left after
    → (h (rule.part before.thread found) + c < room → h (rule.part before.thread left) ≡ h (rule.part before.thread found) + c)
    → sum_by h (own_parts rule before) + c < room → sum_by h (own_parts rule after) ≡ sum_by h (own_parts rule before) + c
more_after_visit rule h before after key found left c room visits more few =
    let sums = sum_after_visit rule h before after key found left visits in
    omega (arith, sums.0, sums.1, few, more (omega (arith, sums.1, few)))
