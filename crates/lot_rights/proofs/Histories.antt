-- A history grows by one entry, or stays.
use Rattle.std.proofs.Common.{◌≡◌, ◌≢◌, ℕ, ◌+◌, ◌*◌, ◌≤◌, ◌==◌, Bool, true, false, cond, List, [], ◌∷◌, ◌++◌, length, set, refl, sym}
use Rattle.std.proofs.Common.{ap, subst}
use Rattle.std.proofs.Common.{◌∙◌, append_assoc, eq-eqb, ne_eqb, arith}
use Rattle.std.proofs.lemmas.List.{append-nil, length-append}
use Rattle.std.proofs.lemmas.List.Sums.{sum_by-append}
use mathlib.Core.Option.{some}
use lib.ListN.{get_elem?}
use Rattle.lot_rights.specs.declared.views.Access.{Access}
use Rattle.lot_rights.specs.declared.views.Entry.{Entry}
use Rattle.lot_rights.specs.Seating.{times, times_in, Each}
use Rattle.lot_rights.specs.declared.views.Access.TheVariants.{Makes, Posts, Collects, Finds, Counts}
use Rattle.lot_rights.specs.History.{maker, doer, entries_of, tokens_of, taken_by, tokens_by, taken_in, CountsRight, AllCountRight, Run}
use Rattle.lot_rights.specs.History.{Noted}
use Rattle.lot_rights.specs.History.{SameMade, Listed, Recorded}
use Rattle.lot_rights.proofs.Puts.{by_test}
use Rattle.lot_rights.proofs.Seats.{times_append, times_one, times_set, times_snoc, times_head, tick, reseats, joins, splits}

-- ---- lists of entries
more_of : (x : Entry) (xs ys zs : List Entry) → xs ≡ ys ++ zs → (b : Bool) → cond b (x ∷ xs) xs ≡ cond b (x ∷ ys) ys ++ zs
more_of x xs ys zs e true = ap (λ us. x ∷ us) e
more_of x xs ys zs e false = e

pub entries_append : (i : ℕ) (xs ys : List Entry) → entries_of i (xs ++ ys) ≡ entries_of i xs ++ entries_of i ys
entries_append i [] ys = refl
entries_append i (x ∷ xs) ys =
    more_of x (entries_of i (xs ++ ys)) (entries_of i xs) (entries_of i ys) (entries_append i xs ys) (doer x.access == i)

pub one_of_mine : (i : ℕ) (x : Entry) → doer x.access ≡ i → (xs : List Entry) → entries_of i (x ∷ xs) ≡ x ∷ entries_of i xs
one_of_mine i x e xs = ap (λ (b : Bool). cond b (x ∷ entries_of i xs) (entries_of i xs)) (eq-eqb (doer x.access) i e)

pub one_of_others : (i : ℕ) (x : Entry) → doer x.access ≢ i → (xs : List Entry) → entries_of i (x ∷ xs) ≡ entries_of i xs
one_of_others i x ne xs = ap (λ (b : Bool). cond b (x ∷ entries_of i xs) (entries_of i xs)) (ne_eqb (doer x.access) i ne)

pub entries_more : (i : ℕ) (log : List Entry) (x : Entry) → doer x.access ≡ i → entries_of i (log ++ x ∷ []) ≡ entries_of i log ++ x ∷ []
entries_more i log x e = entries_append i log (x ∷ []) ∙ ap (λ xs. entries_of i log ++ xs) (one_of_mine i x e [])

pub entries_same : (i : ℕ) (log : List Entry) (x : Entry) → doer x.access ≢ i → entries_of i (log ++ x ∷ []) ≡ entries_of i log
entries_same i log x ne =
    entries_append i log (x ∷ []) ∙ (ap (λ xs. entries_of i log ++ xs) (one_of_others i x ne []) ∙ append-nil (entries_of i log))

module _ {S : Type 0} (Leads : S → Access → S → Type 0) where
  pub run_more : (a : S) (k : ℕ) (log : List Entry) (b : S) (x : Entry) (c : S) → Run Leads a k log b → x.at ≡ k + length log
      → Leads b x.access c → Run Leads a k (log ++ x ∷ []) c
  run_more a k [] b x c run at step = (omega arith, (c, (subst (λ z. Leads z x.access c) run step, refl)))
  run_more a k (y ∷ log) b x c run at step =
      (run.0, (run.1.0, (run.1.1.0, run_more run.1.0 (k + 1) log b x c run.1.1.1 (omega arith) step)))

-- what is counted by one access more is so, and what was counted before
pub counted_more : (before log : List Entry) (x : Entry) → AllCountRight before log
    → CountsRight (before ++ log) x.access → AllCountRight before (log ++ x ∷ [])
counted_more before [] x all one = (subst (λ (es : List Entry). CountsRight es x.access) (append-nil before) one, tt)
counted_more before (y ∷ log) x all one = (
  all.0,
  counted_more (before ++ y ∷ []) log x all.1
      (subst (λ (es : List Entry). CountsRight es x.access) (sym (append_assoc before (y ∷ []) log)) one),
)

-- what an entry counted was so of the entries before it
pub counted_at : (first before : List Entry) (x : Entry) (after : List Entry) → AllCountRight first (before ++ x ∷ after)
    → CountsRight (first ++ before) x.access
counted_at first [] x after all = subst (λ (es : List Entry). CountsRight es x.access) (sym (append-nil first)) all.0
counted_at first (y ∷ before) x after all = subst (λ (es : List Entry). CountsRight es x.access)
    (append_assoc first (y ∷ []) before) (counted_at (first ++ y ∷ []) before x after all.1)

-- ---- who was taken from a line
module _ (c : ℕ) where
  -- as many more have been taken, or told of it, as the entry takes, or tells
  pub taken_more : (log : List Entry) (x : Entry) → taken_in c (log ++ x ∷ []) ≡ taken_in c log + taken_by c x.access
  taken_more log x = let one : 0 + taken_by c x.access ≡ taken_by c x.access = omega arith in
      sum_by-append (λ (y : Entry). taken_by c y.access) log (x ∷ []) ∙ ap (λ n. taken_in c log + n) one

  told_else : (x : Entry) (t : ℕ) → doer x.access ≡ 2 * t → tokens_by c x.access ≡ 0 → length (tokens_of c (x ∷ [])) ≡ tokens_by c x.access
  told_else x t by none = ap length (one_of_others (2 * c + 1) x (λ e. omega (arith, by, e)) []) ∙ sym none

  told_one : (x : Entry) (a : Access) → x.access ≡ a → length (tokens_of c (x ∷ [])) ≡ tokens_by c x.access
  told_one x (Makes e saw) is = told_else x (maker e) (ap doer is) (ap (tokens_by c) is)
  told_one x (Posts d t token) is = by_test (λ b. tokens_by c x.access ≡ cond b 1 0 → length (tokens_of c
      (x ∷ [])) ≡ tokens_by c x.access) c d
      (λ e told. ap length (one_of_mine (2 * c + 1) x (ap doer is ∙ ap (λ k. 2 * k + 1) (sym e)) []) ∙ sym told)
      (λ ne told. ap length (one_of_others (2 * c + 1) x (λ e. ne (let f = sym (ap doer is) ∙ e in omega arith)) []) ∙ sym told)
      (ap (tokens_by c) is)
  told_one x (Collects t found) is = told_else x t (ap doer is) (ap (tokens_by c) is)
  told_one x (Finds t d n) is = told_else x t (ap doer is) (ap (tokens_by c) is)
  told_one x (Counts t d told handed waiting) is = told_else x t (ap doer is) (ap (tokens_by c) is)

  pub told_more : (log : List Entry) (x : Entry) → length (tokens_of c (log ++ x ∷ [])) ≡ length (tokens_of c log) + tokens_by c x.access
  told_more log x = ap length (entries_append (2 * c + 1) log (x ∷ [])) ∙ (length-append (tokens_of c log) (tokens_of c (x ∷ []))
      ∙ ap (λ n. length (tokens_of c log) + n) (told_one x x.access refl))

-- ---- what the rights show
module _ {R : Type 0} (number : R → ℕ) (made : R → List Entry) where
  pub alike_times : (v w : List R) → SameMade number made v w → (j : ℕ) → times number j w ≡ times number j v
  alike_times [] [] h j = refl
  alike_times (r ∷ v) (q ∷ w) h j = λ i. cond (h.0 i == j) 1 0 + alike_times v w h.2 j i
  alike_times [] (q ∷ w) h j = absurd h
  alike_times (r ∷ v) [] h j = absurd h

  pub alike_noted : (log : List Entry) (v w : List R) → SameMade number made v w → Each number (Noted number made log) v
      → Each number (Noted number made log) w
  alike_noted log [] [] h e = tt
  alike_noted log (r ∷ v) (q ∷ w) h e = (h.1 ∙ (e.0 ∙ ap (λ i. entries_of i log) (sym h.0)), alike_noted log v w h.2 e.1)
  alike_noted log [] (q ∷ w) h e = absurd h
  alike_noted log (r ∷ v) [] h e = absurd h

  pub alike_itself : (v : List R) → SameMade number made v v
  alike_itself [] = tt
  alike_itself (r ∷ v) = (refl, refl, alike_itself v)

  -- none of them made the new entry
  others_noted : (log : List Entry) (x : Entry) (v : List R) → times number (doer x.access) v ≡ 0 → Each number (Noted number made log) v
      → Each number (Noted number made (log ++ x ∷ [])) v
  others_noted log x [] none e = tt
  others_noted log x (r ∷ v) none e = (
    e.0
        ∙ sym
        (entries_same (number r) log x (λ d. let one : tick (number r == doer x.access) ≡ 1 =
        ap tick (eq-eqb (number r) (doer x.access) (sym d)) in omega arith)),
    others_noted log x v (omega arith) e.1,
  )

  module _ (log : List Entry) (views : List (List R)) (id : ℕ) where
    -- the right r at the seat shows one entry more, and those beside it are alike
    pub listed_more : (x : Entry) (r r' : R) (v v' : List R) → Listed number made log views → get_elem? views id ≡ some (r ∷ v)
        → doer x.access ≡ number r → number r' ≡ number r
        → made r' ≡ made r ++ x ∷ [] → SameMade number made v v' → Listed number made (log ++ x ∷ []) (set views id (r' ∷ v'))
    listed_more x r r' v v' ok at by same more alike =
        let here : 1 ≤ times number (doer x.access) (r ∷ v) = subst (λ i. 1 ≤ times number i (r ∷ v)) (sym by) (times_head number r v) in
        let head : tick (number r == doer x.access) ≡ 1 = ap tick (eq-eqb (number r) (doer x.access) (sym by)) in
        let none : times number (doer x.access) v ≡ 0 =
        omega (arith, times_one number (doer x.access) views id (r ∷ v) at, ok.told.once (doer x.access)) in
        let noted = ok.told.named id (r ∷ v) at in
        let times_are : (j : ℕ) → times number j (r' ∷ v') ≡ times number j (r ∷ v) =
        (λ j. λ i. cond (same i == j) 1 0 + alike_times v v' alike j i) in
        record {
          told =
              reseats number (Noted number made log) (Noted number made (log ++ x ∷ [])) views id (r ∷ v)
              (r' ∷ v') ok.told at (λ j. omega (arith, times_are j))
              (λ q away h. h
              ∙ sym
              (entries_same (number q) log x (λ d. let one : 1 ≤ times number (number q) (r ∷ v) =
              subst (λ i. 1 ≤ times number i (r ∷ v)) d here in omega arith))) (
                more
                    ∙ (ap (λ xs. xs ++ x ∷ []) (noted.0 ∙ ap (λ i. entries_of i log) (sym same))
                    ∙ sym (entries_more (number r') log x (by ∙ sym same))),
                alike_noted (log ++ x ∷ []) v v' alike (others_noted log x v none noted.1),
              );
          known = λ u away.
              let before : times_in number u views ≡ 0 = omega (arith, times_set number u views id (r ∷ v) (r' ∷ v') at, times_are u) in
              entries_same u log x (λ d. let one : 1 ≤ times number u (r ∷ v) = subst (λ i. 1 ≤ times number i (r ∷ v)) d here in
              omega (arith, times_one number u views id (r ∷ v) at))
              ∙ ok.known u before;
        }

    -- the rights at the seat change, but not what they show
    pub listed_stays : (v v' : List R) → Listed number made log views → get_elem? views id ≡ some v → SameMade number made v v'
        → Listed number made log (set views id v')
    listed_stays v v' ok at alike = record {
      told =
          reseats number (Noted number made log) (Noted number made log) views id v v'
          ok.told at (λ j. omega (arith, alike_times v v' alike j)) (λ q away h. h)
          (alike_noted log v v' alike (ok.told.named id v at));
      known = λ u away. ok.known u (omega (arith, times_set number u views id v v' at, alike_times v v' alike u));
    }

    -- the seat takes in what another has
    pub listed_joins : (other : ℕ) (v w : List R) → Listed number made log views → get_elem? views id ≡ some v → other ≢ id
        → get_elem? (set views id (v ++ w)) other ≡ some w
        → Listed number made log (set (set views id (v ++ w)) other [])
    listed_joins other v w ok at ne there = record {
      told = joins number (Noted number made log) views id other v w ok.told at ne there;
      known =
          λ u away.
          ok.known u
          (omega (
            arith,
            times_set number u (set views id (v ++ w)) other w [] there,
            times_set number u views id v (v ++ w) at,
            times_append number u v w,
          ));
    }

    -- what the seat has is cut in two
    pub listed_splits : (v l r : List R) → Listed number made log views → get_elem? views id ≡ some v
        → ((j : ℕ) → times number j l + times number j r ≡ times number j v)
        → (Each number (Noted number made log) v → Each number (Noted number made log) l × Each number (Noted number made log) r)
        → Listed number made log (set views id l ++ r ∷ [])
    listed_splits v l r ok at same cut = record {
      told = splits number (Noted number made log) views id v l r ok.told at (λ j. omega (arith, same j)) cut;
      known = λ u away. ok.known u (omega (arith, times_snoc number u (set views id l) r, times_set number u views id v l at, same u));
    }

  -- ---- the same of the whole record
  module _ {S : Type 0} (Leads : S → Access → S → Type 0) (first : S) (log : List Entry) (views : List (List R)) (b : S)
      (ok : Recorded number made Leads first log views b) (id : ℕ) where
    pub records_more : (x : Entry) (c : S) (r r' : R) (v v' : List R) → get_elem? views id ≡ some (r ∷ v)
        → x.at ≡ length log → Leads b x.access c → CountsRight log x.access
        → doer x.access ≡ number r → number r' ≡ number r → made r' ≡ made r ++ x ∷ [] → SameMade number made v v'
        → Recorded number made Leads first (log ++ x ∷ []) (set views id (r' ∷ v')) c
    records_more x c r r' v v' at place step counts by same more alike = record {
      run = run_more Leads first 0 log b x c ok.run (omega arith) step;
      counted = counted_more [] log x ok.counted counts;
      listed = listed_more log views id x r r' v v' ok.listed at by same more alike;
    }

    pub records_stay : (c : S) → c ≡ b → (v v' : List R) → get_elem? views id ≡ some v → SameMade number made v v'
        → Recorded number made Leads first log (set views id v') c
    records_stay c e v v' at alike =
        record {
          run = subst (λ z. Run Leads first 0 log z) (sym e) ok.run;
          counted = ok.counted;
          listed = listed_stays log views id v v' ok.listed at alike;
        }

    pub records_join : (other : ℕ) (v w : List R) → get_elem? views id ≡ some v → other ≢ id
        → get_elem? (set views id (v ++ w)) other ≡ some w
        → Recorded number made Leads first log (set (set views id (v ++ w)) other []) b
    records_join other v w at ne there = record {
      run = ok.run;
      counted = ok.counted;
      listed = listed_joins log views id other v w ok.listed at ne there;
    }

    pub records_split : (v l r : List R) → get_elem? views id ≡ some v → ((j : ℕ) → times number j l + times number j r ≡ times number j v)
        → (Each number (Noted number made log) v → Each number (Noted number made log) l × Each number (Noted number made log) r)
        → Recorded number made Leads first log (set views id l ++ r ∷ []) b
    records_split v l r at same cut = record {
      run = ok.run;
      counted = ok.counted;
      listed = listed_splits log views id v l r ok.listed at same cut;
    }
