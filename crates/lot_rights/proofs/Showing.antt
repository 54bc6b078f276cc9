-- What the rights show, wherever they are.
use Rattle.std.proofs.Common.{◌≡◌, ◌≢◌, ℕ, suc, ◌+◌, ◌==◌, Bool, cond, List, [], ◌∷◌, ◌++◌, set, ◌⊎◌, refl, sym, ap, subst, ◌∙◌}
use Rattle.std.proofs.Common.{⊎_elim, eq-eqb, ne_eqb, arith}
use Rattle.std.proofs.lemmas.List.{append-nil}
use mathlib.Core.Option.{some}
use mathlib.Core.Logic.{dite}
use native.Mathlib.Decide.{ℕ_discrete}
use lib.ListN.{get_elem?}
use Rattle.atomic_table.proofs.Lists.{set_else}
use Rattle.lot_rights.specs.declared.views.Entry.{Entry}
use Rattle.lot_rights.specs.Seating.{times, times_in, Each}
use Rattle.lot_rights.specs.History.{doer, entries_of, Noted, SameMade, shown_at, shown_in, SameShown, OneMoreShown, Listed}
use Rattle.lot_rights.proofs.Seats.{tick, times_append}
use Rattle.lot_rights.proofs.Histories.{entries_more, entries_same, listed_more, listed_stays, listed_joins, listed_splits}

module _ {R : Type 0} (number : R → ℕ) (made : R → List Entry) where
  none_at : (i : ℕ) (v : List R) → times number i v ≡ 0 → shown_at number made i v ≡ []
  none_at i [] none = refl
  none_at i (r ∷ v) none = dite (ℕ_discrete (number r) i)
      (λ here. let one : tick (number r == i) ≡ 1 = ap tick (eq-eqb (number r) i here) in absurd (omega arith))
      (λ else. ap (λ (b : Bool). cond b (made r) [] ++ shown_at number made i v) (ne_eqb (number r) i else) ∙ none_at i v (omega arith))

  none_in : (i : ℕ) (vs : List (List R)) → times_in number i vs ≡ 0 → shown_in number made i vs ≡ []
  none_in i [] none = refl
  none_in i (v ∷ vs) none = (λ j. none_at i v (omega arith) j ++ shown_in number made i vs) ∙ none_in i vs (omega arith)

  -- where each right shows what f says, they all do
  module _ (f : ℕ → List Entry) where
    abbrev Tells : R → Type 0
    Tells r = made r ≡ f (number r)

    tells_at : (i : ℕ) (v : List R) → times number i v ≡ 1 → Each number Tells v → shown_at number made i v ≡ f i
    tells_at i [] one each = absurd (omega arith)
    tells_at i (r ∷ v) one each = dite (ℕ_discrete (number r) i)
        (λ here. let mine : tick (number r == i) ≡ 1 = ap tick (eq-eqb (number r) i here) in
        ap (λ (b : Bool). cond b (made r) [] ++ shown_at number made i v) (eq-eqb (number r) i here)
        ∙ (ap (λ xs. made r ++ xs) (none_at i v (omega arith)) ∙ (append-nil (made r) ∙ (each.0 ∙ ap f here))))
        (λ else. let other : tick (number r == i) ≡ 0 = ap tick (ne_eqb (number r) i else) in
        ap (λ (b : Bool). cond b (made r) [] ++ shown_at number made i v) (ne_eqb (number r) i else) ∙ tells_at i v (omega arith) each.1)

    tells_in : (i : ℕ) (vs : List (List R)) → times_in number i vs ≡ 1
        → ((j : ℕ) (v : List R) → get_elem? vs j ≡ some v → Each number Tells v) → shown_in number made i vs ≡ f i
    tells_in i [] one named = absurd (omega arith)
    tells_in i (v ∷ vs) one named = dite (ℕ_discrete (times number i v) 0)
        (λ none. ap (λ xs. xs ++ shown_in number made i vs) (none_at i v none) ∙ tells_in i vs (omega arith) (λ j. named (suc j)))
        (λ ne. ap (λ xs. shown_at number made i v ++ xs) (none_in i vs (omega arith))
        ∙ (append-nil (shown_at number made i v) ∙ tells_at i v (omega arith) (named 0 v refl)))

  -- the rights show the entries of their history
  pub shown_listed : (log : List Entry) (views : List (List R)) → Listed number made log views → (i : ℕ)
      → shown_in number made i views ≡ entries_of i log
  shown_listed log views ok i = dite (ℕ_discrete (times_in number i views) 0)
      (λ none. none_in i views none ∙ sym (ok.known i none))
      (λ ne. tells_in (λ j. entries_of j log) i views (let once = ok.told.once i in omega arith) ok.told.named)

  module _ (log : List Entry) (views views' : List (List R)) (ok : Listed number made log views) where
    pub same_shown : Listed number made log views' → SameShown number made views views'
    same_shown ok' i = shown_listed log views' ok' i ∙ sym (shown_listed log views ok i)

    pub one_more_shown : (x : Entry) → Listed number made (log ++ x ∷ []) views' → OneMoreShown number made views x views'
    one_more_shown x ok' = record {
      more = shown_listed (log ++ x ∷ []) views' ok' (doer x.access)
          ∙ (entries_more (doer x.access) log x refl ∙ ap (λ xs. xs ++ x ∷ []) (sym (shown_listed log views ok (doer x.access))));
      same = λ i ne. shown_listed (log ++ x ∷ []) views' ok' i
          ∙ (entries_same i log x (λ e. ne (sym e)) ∙ sym (shown_listed log views ok i));
    }

    -- two histories, of rights that show the same
    pub same_entries : (log' : List Entry) → Listed number made log' views' → SameShown number made views views' → (i : ℕ)
        → entries_of i log' ≡ entries_of i log
    same_entries log' ok' same i = sym (shown_listed log' views' ok' i) ∙ (same i ∙ shown_listed log views ok i)

    -- and of rights that show one entry more
    pub more_entries : (log' : List Entry) (x : Entry) → Listed number made log' views' → OneMoreShown number made views x views'
        → (i : ℕ) → entries_of i log' ≡ entries_of i (log ++ x ∷ [])
    more_entries log' x ok' more i = sym (shown_listed log' views' ok' i) ∙ dite (ℕ_discrete (doer x.access) i)
        (λ mine. subst (λ j. shown_in number made j views' ≡ entries_of j (log ++ x ∷ [])) mine
        (more.more
        ∙ (ap (λ xs. xs ++ x ∷ []) (shown_listed log views ok (doer x.access)) ∙ sym (entries_more (doer x.access) log x refl))))
        (λ other. more.same i (λ e. other (sym e)) ∙ (shown_listed log views ok i ∙ sym (entries_same i log x other)))

  -- ---- what seats show
  module _ (log : List Entry) (views : List (List R)) (ok : Listed number made log views) (id : ℕ) where
    pub join_shows : (other : ℕ) (v w : List R) → get_elem? views id ≡ some v → other ≢ id → get_elem? views other ≡ some w
        → SameShown number made views (set (set views id (v ++ w)) other [])
    join_shows other v w at ne there = same_shown log views (set (set views id (v ++ w)) other []) ok
        (listed_joins number made log views id other v w ok at ne (set_else views id other (v ++ w) ne ∙ there))

    halves : (v l r : List R) → get_elem? views id ≡ some v → ((j : ℕ) → times number j l + times number j r ≡ times number j v)
        → (Each number (Noted number made log) v → Each number (Noted number made log) l × Each number (Noted number made log) r)
        → SameShown number made views (set views id l ++ r ∷ [])
    halves v l r at same cut =
        same_shown log views (set views id l ++ r ∷ []) ok (listed_splits number made log views id v l r ok at same cut)

    front : (F : R → Type 0) (l r : List R) → Each number F (l ++ r) → Each number F l
    front F [] r e = tt
    front F (x ∷ l) r e = (e.0, front F l r e.1)

    back : (F : R → Type 0) (l r : List R) → Each number F (l ++ r) → Each number F r
    back F [] r e = e
    back F (x ∷ l) r e = back F l r e.1

    pub split_shows : (v l r : List R) → get_elem? views id ≡ some v → (v ≡ l ++ r) ⊎ (v ≡ r ++ l)
        → SameShown number made views (set views id l ++ r ∷ [])
    split_shows v l r at cut =
        let F : R → Type 0 = Noted number made log in
        ⊎_elim {C = SameShown number made views (set views id l ++ r ∷ [])}
        (λ e. halves v l r at (λ j. sym (ap (times number j) e ∙ times_append number j l r))
        (λ each. let z = subst (Each number F) e each in (front F l r z, back F l r z)))
        (λ e. halves v l r at (λ j. omega (arith, ap (times number j) e, times_append number j r l))
        (λ each. let z = subst (Each number F) e each in (back F r l z, front F r l z)))
        cut

    pub same_shows : (v v' : List R) → get_elem? views id ≡ some v → SameMade number made v v'
        → SameShown number made views (set views id v')
    same_shows v v' at alike = same_shown log views (set views id v') ok (listed_stays number made log views id v v' ok at alike)

    pub more_shows : (r r' : R) (v v' : List R) (x : Entry) → get_elem? views id ≡ some (r ∷ v) → SameMade number made v v'
        → number r' ≡ number r → doer x.access ≡ number r
        → made r' ≡ made r ++ x ∷ [] → OneMoreShown number made views x (set views id (r' ∷ v'))
    more_shows r r' v v' x at alike same by more =
        one_more_shown log views (set views id (r' ∷ v')) ok x (listed_more number made log views id x r r' v v' ok at by same more alike)
