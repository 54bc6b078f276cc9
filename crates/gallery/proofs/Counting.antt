-- What workers added to each counter, and what it came to.
use Rattle.std.proofs.Common.{◌≡◌, ◌≢◌, ℕ, ◌+◌, ◌/◌, ◌%◌, ◌<◌, ◌≤◌, List, [], ◌∷◌, zero, suc, length, map, get_or, set, slice_get, Some}
use Rattle.std.proofs.Common.{get_or-set_other, get_or-set_same, refl, sym, ap, subst, ◌∙◌, inl, inr, arith}
use Rattle.std.specs.List.{sum, sum_by}
use Rattle.std.proofs.lemmas.Bool.{cases_eq}
use Rattle.std.proofs.lemmas.List.{length-map}
use Rattle.std.proofs.lemmas.List.Sums.{sum_by-cons}
use Rattle.lot_words.specs.CallersRule.{CallersRule}
use Rattle.lot_sync.specs.Lot.{LotView, PassView, rested}
use Rattle.lot_calls.specs.Workers.{HasWorked}
use Rattle.lot_calls.proofs.Sums.{sum_below_alike, sum_of_row}
use Rattle.gallery.proofs.Numbers.{number_within}
use Rattle.gallery.specs.declared.map.Shard.{Shard}
use Rattle.gallery.specs.Counters.{HasRows, HasAdded, HasAddedBelow, row_of, rows_of, at_counter, added_by, added_to, AllCount}

-- ---- one number within a sum
row_within : (rows : List (List ℕ)) (i : ℕ) → sum (get_or rows i []) ≤ sum_by sum rows
row_within [] i = omega arith
row_within (x ∷ xs) zero = omega (arith, sum_by-cons sum x xs)
row_within (x ∷ xs) (suc i) = omega (arith, row_within xs i, sum_by-cons sum x xs)

-- what was added to a counter is within what was added to all
pub counter_within : (counter : ℕ) (rows : List (List ℕ)) → at_counter counter rows ≤ sum_by sum rows
counter_within counter rows =
    omega (arith, row_within rows (counter % 64), number_within (get_or rows (counter % 64) []) (counter / 64))

-- ---- a visit of a counter's shard, where this row was put in place of that
module _ (rows rows' : List (List ℕ)) (old new : List ℕ) (counter : ℕ) (near : counter % 64 < length rows)
    (was : get_or rows (counter % 64) [] ≡ old) (is : rows' ≡ set rows (counter % 64) new) where
  pub this_counter : get_or new (counter / 64) 0 ≡ get_or old (counter / 64) 0 + 1 → at_counter counter rows' ≡ at_counter counter rows + 1
  this_counter more =
      ap (at_counter counter) is ∙ (ap (λ row. get_or row (counter / 64) 0) (get_or-set_same rows (counter % 64) new [] near)
      ∙ (more ∙ ap (λ row. get_or row (counter / 64) 0 + 1) (sym was)))

  pub other_counter : ((p : ℕ) → p ≢ counter / 64 → get_or new p 0 ≡ get_or old p 0) → (other : ℕ) → other ≢ counter
      → at_counter other rows' ≡ at_counter other rows
  other_counter same other ne = ap (at_counter other) is ∙ elim (cases_eq (other % 64) (counter % 64)) [
    | inl e ↦ ap (λ i. get_or (get_or (set rows (counter % 64) new) i []) (other / 64) 0) e
        ∙ (ap (λ row. get_or row (other / 64) 0) (get_or-set_same rows (counter % 64) new [] near)
        ∙ (same (other / 64) (λ d. ne (omega (arith, e, d))) ∙ (ap (λ row. get_or row (other / 64) 0) (sym was)
        ∙ ap (λ i. get_or (get_or rows i []) (other / 64) 0) (sym e))))
    | inr e ↦ ap (λ row. get_or row (other / 64) 0) (get_or-set_other rows (counter % 64) (other % 64) new [] e)
  ]

-- one more counter
pub one_below : (lot : LotView) (before mid after : PassView Shard) (n : ℕ) → HasAddedBelow lot n before mid → HasAdded lot n mid after
    → HasAddedBelow lot (n + 1) before after
one_below lot before mid after n below one = record {
  back = record {
    same_thread = one.back.same_thread ∙ below.back.same_thread;
    free = one.back.free;
    shape = one.back.shape;
  };
  added = omega (arith, one.added, below.added);
  below = λ k near. elim (cases_eq k n) [
    | inl e ↦ subst (λ j. added_to j after.thread after.seen ≡ added_to j before.thread before.seen + 1) (sym e)
        (one.one ∙ ap (λ m. m + 1) (below.beyond n (omega arith)))
    | inr ne ↦ one.others k ne ∙ below.below k (omega (arith, near, ne))
  ];
  beyond = λ k far. one.others k (λ e. absurd (omega (arith, far, e))) ∙ below.beyond k (omega (arith, far));
}

-- ---- the end
-- a value at its place, its rows there, and its row of each worker
at_place : (values : List Shard) (i : ℕ) → i < length values
    → (v : Shard) × (slice_get values i ≡ Some v) × (get_or (map rows_of values) i [] ≡ v.rows)
    × ((t : ℕ) → get_or (map (row_of t) values) i [] ≡ row_of t v)
at_place [] i near = absurd (omega (arith, near))
at_place (v ∷ values) zero near = (v, refl, refl, λ t. refl)
at_place (v ∷ values) (suc i) near = at_place values i (omega (arith, near))

module _ (rule : CallersRule Shard (List ℕ)) (opening values : List Shard) (lot : LotView)
    (becomes : PassView Shard → PassView Shard → Type 0)
    (worked : (t : ℕ) → t < 4 → HasWorked rule opening lot becomes values t)
    (adds : (p q : PassView Shard) → becomes p q → HasAddedBelow lot 1024 p q) (part : rule.part ≡ row_of)
    (keeps : (key : ℕ) (v : Shard) → rule.keeps key v → HasRows v)
    (new : (p : PassView Shard) → rule.rests (rested p) → added_by p.thread p.seen ≡ 0) (locks : lot.locks ≡ 64) where
  added_one : (t : ℕ) → t < 4 → (counter : ℕ) → counter < 1024 → at_counter counter (map (row_of t) values) ≡ 1
  added_one t near counter within =
      let done = worked t near in
      let p = done.before in
      let q = done.after in
      let none = counter_within counter (map (row_of p.thread) p.seen) in
      let more = (adds p q done.worked).below counter within in
      let own : map (row_of t) values ≡ map (row_of q.thread) q.seen =
      subst (λ f. map (f t) values ≡ map (f q.thread) q.seen) part done.own in
      ap (at_counter counter) own ∙ (more ∙ omega (arith, none, new p done.ready.rests))

  pub all_count : AllCount 4 values
  all_count counter within =
      let done = worked 0 (omega arith) in
      let long = ap length done.own in
      let near : counter % 64 < length values =
      omega (
        arith,
        long,
        length-map values (rule.part 0),
        length-map done.after.seen (rule.part done.after.thread),
        (adds done.before done.after done.worked).back.shape.seen,
        locks,
      ) in
      let (v, at, rows, row) = at_place values (counter % 64) near in
      let has : HasRows v = keeps (counter % 64) v (done.goes_on.kept (counter % 64) v at) in
      ap (sum_by (λ r. get_or r (counter / 64) 0)) rows ∙ (sum_of_row (λ r. get_or r (counter / 64) 0) [] v.rows 4 has.rows
      ∙ sum_below_alike 4 (λ t. get_or (row_of t v) (counter / 64) 0) (λ t. 1)
      (λ t few. ap (λ r. get_or r (counter / 64) 0) (sym (row t)) ∙ added_one t few counter within))
