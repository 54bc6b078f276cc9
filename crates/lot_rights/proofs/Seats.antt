-- Seats that change, join and split.
use Rattle.std.proofs.Common.{◌≡◌, ◌≢◌, ℕ, zero, suc, ◌+◌, ◌≤◌, ◌==◌, Bool, cond, List, [], ◌∷◌, ◌++◌, set, refl, sym, ap, subst, ◌∙◌}
use Rattle.std.proofs.Common.{⊎_elim, eq-eqb, arith}
use mathlib.Core.Option.{some, some-injective, some-ne-none}
use lib.ListN.{get_elem?}
use Rattle.atomic_table.proofs.Lists.{at_set, at_snoc, set_else}
use Rattle.lot_rights.specs.Seating.{times, times_in, Each, Seated}

abbrev pub tick : Bool → ℕ
tick b = cond b 1 0

-- ---- how often a number stands in the views
module _ {R : Type 0} (number : R → ℕ) where
  pub times_append : (i : ℕ) (v w : List R) → times number i (v ++ w) ≡ times number i v + times number i w
  times_append i [] w = omega arith
  times_append i (x ∷ v) w = omega (arith, times_append i v w)

  pub times_one : (i : ℕ) (vs : List (List R)) (j : ℕ) (v : List R) → get_elem? vs j ≡ some v → times number i v ≤ times_in number i vs
  times_one i [] j v e = absurd (some-ne-none v (sym e))
  times_one i (x ∷ vs) zero v e = let q : times number i x ≡ times number i v = ap (times number i) (some-injective x v e) in omega arith
  times_one i (x ∷ vs) (suc j) v e = omega (arith, times_one i vs j v e)

  pub times_two : (i : ℕ) (vs : List (List R)) (j k : ℕ) (v u : List R) → get_elem? vs j ≡ some v → get_elem? vs k ≡ some u → k ≢ j
      → times number i v + times number i u ≤ times_in number i vs
  times_two i [] j k v u e f ne = absurd (some-ne-none v (sym e))
  times_two i (x ∷ vs) zero zero v u e f ne = absurd (ne refl)
  times_two i (x ∷ vs) zero (suc k) v u e f ne =
      let q : times number i x ≡ times number i v = ap (times number i) (some-injective x v e) in omega (arith, times_one i vs k u f)
  times_two i (x ∷ vs) (suc j) zero v u e f ne =
      let q : times number i x ≡ times number i u = ap (times number i) (some-injective x u f) in omega (arith, times_one i vs j v e)
  times_two i (x ∷ vs) (suc j) (suc k) v u e f ne = omega (arith, times_two i vs j k v u e f (λ p. ne (ap suc p)))

  pub times_set : (i : ℕ) (vs : List (List R)) (j : ℕ) (v w : List R) → get_elem? vs j ≡ some v
      → times_in number i (set vs j w) + times number i v ≡ times_in number i vs + times number i w
  times_set i [] j v w e = absurd (some-ne-none v (sym e))
  times_set i (x ∷ vs) zero v w e = let q : times number i x ≡ times number i v = ap (times number i) (some-injective x v e) in omega arith
  times_set i (x ∷ vs) (suc j) v w e = omega (arith, times_set i vs j v w e)

  pub times_snoc : (i : ℕ) (vs : List (List R)) (v : List R) → times_in number i (vs ++ v ∷ []) ≡ times_in number i vs + times number i v
  times_snoc i [] v = omega arith
  times_snoc i (x ∷ vs) v = omega (arith, times_snoc i vs v)

  -- a right stands at least once where it stands
  pub times_head : (r : R) (v : List R) → 1 ≤ times number (number r) (r ∷ v)
  times_head r v = let q : tick (number r == number r) ≡ 1 = ap tick (eq-eqb (number r) (number r) refl) in omega arith

  module _ (F G : R → Type 0) where
    pub each_map : (v : List R) → ((r : R) → 1 ≤ times number (number r) v → F r → G r) → Each number F v → Each number G v
    each_map [] f e = tt
    each_map (x ∷ v) f e = (f x (times_head x v) e.0, each_map v (λ r h. f r (omega arith)) e.1)

  pub each_append : (F : R → Type 0) (v w : List R) → Each number F v → Each number F w → Each number F (v ++ w)
  each_append F [] w a b = b
  each_append F (x ∷ v) w a b = (a.0, each_append F v w a.1 b)

  -- the rights at one seat change, and those at the others are still what the fact says
  pub reseats : (F G : R → Type 0) (vs : List (List R)) (id : ℕ) (v w : List R) → Seated number F vs → get_elem? vs id ≡ some v
      → ((i : ℕ) → times number i w ≤ times number i v)
      → ((r : R) → times number (number r) v ≡ 0 → F r → G r) → Each number G w → Seated number G (set vs id w)
  reseats F G vs id v w ok e less keeps new = record {
    once = λ i. omega (arith, times_set i vs id v w e, ok.once i, less i);
    named = λ j u f. ⊎_elim
        (λ here. subst (Each number G) here.1 new)
        (λ there. each_map F G u (λ r h. keeps r (omega (arith, times_two (number r) vs id j v u e there.1 there.0, ok.once (number r))))
        (ok.named j u there.1))
        (at_set vs id j w u f);
  }

  -- a seat takes in what another has
  pub joins : (F : R → Type 0) (vs : List (List R)) (id other : ℕ) (v w : List R) → Seated number F vs → get_elem? vs id ≡ some v
      → other ≢ id → get_elem? (set vs id (v ++ w)) other ≡ some w
      → Seated number F (set (set vs id (v ++ w)) other [])
  joins F vs id other v w ok e ne f =
      let f' : get_elem? vs other ≡ some w = sym (set_else vs id other (v ++ w) ne) ∙ f in
      record {
        once =
            λ i.
            omega (arith, times_set i (set vs id (v ++ w)) other w [] f, times_set i vs id v (v ++ w) e, times_append i v w, ok.once i);
        named = λ j u g. ⊎_elim
            (λ here. subst (Each number F) here.1 tt)
            (λ there. ⊎_elim
            (λ here. subst (Each number F) here.1 (each_append F v w (ok.named id v e) (ok.named other w f')))
            (λ stays. ok.named j u stays.1)
            (at_set vs id j (v ++ w) u there.1))
            (at_set (set vs id (v ++ w)) other j [] u g);
      }

  -- what a seat has is cut in two, and a new seat has the second
  pub splits : (F : R → Type 0) (vs : List (List R)) (id : ℕ) (v l r : List R) → Seated number F vs → get_elem? vs id ≡ some v
      → ((i : ℕ) → times number i l + times number i r ≤ times number i v)
      → (Each number F v → Each number F l × Each number F r) → Seated number F (set vs id l ++ r ∷ [])
  splits F vs id v l r ok e less cut =
      let both = cut (ok.named id v e) in
      record {
        once = λ i. omega (arith, times_snoc i (set vs id l) r, times_set i vs id v l e, less i, ok.once i);
        named = λ j u g. ⊎_elim
            (λ old. ⊎_elim (λ here. subst (Each number F) here.1 both.0) (λ there. ok.named j u there.1) (at_set vs id j l u old))
            (λ new. subst (Each number F) new both.1)
            (at_snoc (set vs id l) r u j g);
      }
