-- A list written at one place is its row with one value changed.
use Rattle.std.proofs.Common.{zero, suc, ◌≡◌, ◌<◌, ◌≤◌, ◌-◌, ◌+◌, ◌++◌, ℕ, List, [], ◌∷◌, length, get_or, set, map, replicate, refl, inl}
use Rattle.std.proofs.Common.{inr, sym, ap, ◌∙◌, arith, get_or-set_same, get_or-set_other}
use Rattle.std.specs.Prelude.{nat_lt, if◌then◌else◌, slice_index_or}
use Rattle.std.proofs.lemmas.Bool.{cases_lt, ltb-false, lt-ltb, le-ltb}
use Rattle.std.proofs.lemmas.List.{get_or_past, get_or_default, get_or-map, map-set, length-map}
use mathlib.Core.Path.{fun_ext}
use Rattle.lot_core.specs.Model.{put}
use Rattle.lot_core.specs.Rows.{row, row_from}
use Rattle.lot_core.proofs.Put.{by_bit, at_all, put_again, told_put}

pub row_at : {X : Type 0} (none : X) (xs : List X) (k : ℕ) → row none xs k ≡ slice_index_or xs k none
unfolding row
row_at none xs k = refl

pub row_past : {X : Type 0} (none : X) (xs : List X) (k : ℕ) → length xs ≤ k → row none xs k ≡ none
unfolding row
row_past none xs k past = get_or_past xs k none past

pub row_set : {X : Type 0} (none : X) (xs : List X) (k : ℕ) (v : X) → k < length xs → row none (set xs k v) ≡ put (row none xs) k v
unfolding row
row_set none xs k v within =
    fun_ext (at_all (λ i b. get_or (set xs k v) i none ≡ (if b then v else get_or xs i none)) k
    (get_or-set_same xs k v none within) (λ i ne. get_or-set_other xs k i v none ne))

pub get_or_replicate : {X : Type 0} (none : X) (n k : ℕ) → get_or (replicate n none) k none ≡ none
get_or_replicate none zero k = refl
get_or_replicate none (suc n) zero = refl
get_or_replicate none (suc n) (suc k) = get_or_replicate none n k

pub row_none : {X : Type 0} (none : X) (n : ℕ) → row none (replicate n none) ≡ (λ k. none)
unfolding row
row_none none n = fun_ext (λ k. get_or_replicate none n k)

pub row_from_at : {X : Type 0} (none : X) (low : ℕ) (xs : List X) (k : ℕ) → low ≤ k
    → row_from none low xs k ≡ slice_index_or xs (k - low) none
unfolding row_from
row_from_at none low xs k from =
    ap (λ b. if b then none else slice_index_or xs (k - low) none) (le-ltb k low from)

pub row_from_before : {X : Type 0} (none : X) (low : ℕ) (xs : List X) (k : ℕ) → k < low → row_from none low xs k ≡ none
unfolding row_from
row_from_before none low xs k before =
    ap (λ b. if b then none else slice_index_or xs (k - low) none) (lt-ltb k low before)

pub row_from_past : {X : Type 0} (none : X) (low : ℕ) (xs : List X) (k : ℕ) → low + length xs ≤ k → row_from none low xs k ≡ none
row_from_past none low xs k past =
    row_from_at none low xs k (omega arith) ∙ get_or_past xs (k - low) none (omega arith)

pub row_from_set : {X : Type 0} (none : X) (low : ℕ) (xs : List X) (k : ℕ) (v : X) → low ≤ k → k - low < length xs →
    row_from none low (set xs (k - low) v) ≡ put (row_from none low xs) k v
unfolding row_from
row_from_set none low xs k v from within =
    fun_ext (at_all (λ i b. (if nat_lt i low then none else get_or (set xs (k - low) v) (i - low) none)
    ≡ (if b then v else (if nat_lt i low then none else get_or xs (i - low) none))) k
    (ap (λ b. if b then none else get_or (set xs (k - low) v) (k - low) none) (le-ltb k low from)
    ∙ get_or-set_same xs (k - low) v none within)
    (λ i ne. by_bit (λ b. nat_lt i low ≡ b
    → (if b then none else get_or (set xs (k - low) v) (i - low) none) ≡ (if b then none else get_or xs (i - low) none)) (nat_lt i low)
    (λ e is. refl)
    (λ e is. let at : low ≤ i = ltb-false i low is in get_or-set_other xs (k - low) (i - low) v none (omega arith)) refl))

-- what was read at a place within the list
pub row_read : {X : Type 0} (none : X) (xs : List X) (k : ℕ) (x : X) → k < length xs → x ≡ get_or xs k x → row none xs k ≡ x
unfolding row
row_read none xs k x within is = get_or_default xs k none x within ∙ sym is

pub row_from_read : {X : Type 0} (none : X) (low : ℕ) (xs : List X) (k : ℕ) (x : X) → low ≤ k → k - low < length xs
    → x ≡ get_or xs (k - low) x →
    row_from none low xs k ≡ x
row_from_read none low xs k x from within is = row_from_at none low xs k from ∙ get_or_default xs (k - low) none x within ∙ sym is

-- a place past the list may take the value that all such places have
pub row_put_past : {X : Type 0} (none : X) (xs : List X) (k : ℕ) → length xs ≤ k → put (row none xs) k none ≡ row none xs
row_put_past none xs k past = ap (put (row none xs) k) (sym (row_past none xs k past)) ∙ put_again (row none xs) k

pub row_from_none : {X : Type 0} (none : X) (low n : ℕ) → row_from none low (replicate n none) ≡ (λ k. none)
unfolding row_from
row_from_none none low n =
    fun_ext (λ k. by_bit (λ b. (if b then none else get_or (replicate n none) (k - low) none) ≡ none) (nat_lt k low)
    (λ e. refl) (λ e. get_or_replicate none n (k - low)))

-- what f tells of the elements: of one that was read, and where one is written
pub told_item : {X Y : Type 0} (f : X → Y) (none : Y) (low : ℕ) (xs : List X) (k : ℕ) (x : X) → low ≤ k → k - low < length xs →
    x ≡ get_or xs (k - low) x → row_from none low (map f xs) k ≡ f x
told_item f none low xs k x from within is =
    row_from_at none low (map f xs) k from ∙ get_or-map f xs (k - low) x none within ∙ ap f (sym is)

pub told_write : {X Y : Type 0} (f : X → Y) (none : Y) (low : ℕ) (xs : List X) (k : ℕ) (x : X) → low ≤ k → k - low < length xs →
    row_from none low (map f (set xs (k - low) x)) ≡ put (row_from none low (map f xs)) k (f x)
told_write f none low xs k x from within =
    ap (row_from none low) (map-set f xs (k - low) x) ∙ row_from_set none low (map f xs) k (f x) from (rw length-map within)

-- and where it tells the same of the one that is written
pub told_rewrite : {X Y : Type 0} (f : X → Y) (none : Y) (low : ℕ) (xs : List X) (k : ℕ) (old new : X) → low ≤ k → k - low < length xs →
    old ≡ get_or xs (k - low) old → f new ≡ f old → row_from none low (map f (set xs (k - low) new)) ≡ row_from none low (map f xs)
told_rewrite f none low xs k old new from within is same =
    told_write f none low xs k new from within
    ∙ ap (put (row_from none low (map f xs)) k) (same ∙ sym (told_item f none low xs k old from within is))
    ∙ put_again (row_from none low (map f xs)) k

-- elements of which f tells nothing, and one more of these
pub told_none : {X Y : Type 0} (f : X → Y) (none : Y) (low : ℕ) (xs : List X) → ((i : ℕ) → get_or (map f xs) i none ≡ none) →
    row_from none low (map f xs) ≡ (λ k. none)
told_none f none low xs each =
    fun_ext (λ k. elim (cases_lt k low) [
      | inl before ↦ row_from_before none low (map f xs) k before
      | inr from ↦ row_from_at none low (map f xs) k from ∙ each (k - low)
    ])

pub none_more : {X Y : Type 0} (f : X → Y) (none : Y) (xs : List X) (x : X) → f x ≡ none →
    ((i : ℕ) → get_or (map f xs) i none ≡ none) → (i : ℕ) → get_or (map f (xs ++ x ∷ [])) i none ≡ none
none_more f none [] x is each zero = is
none_more f none [] x is each (suc i) = refl
none_more f none (y ∷ xs) x is each zero = each 0
none_more f none (y ∷ xs) x is each (suc i) = none_more f none xs x is (λ j. each (suc j)) i

-- what is read of a row, and what is written in it
pub ruleset row_laws = (row_read, row_from_read, row_past, row_set, row_from_set, told_put)
