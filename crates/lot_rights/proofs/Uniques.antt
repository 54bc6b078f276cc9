-- The rights settle the history: two histories of the same rights are one.
use Rattle.std.proofs.Common.{◌≡◌, ℕ, ◌+◌, ◌≤◌, List, [], ◌∷◌, ◌++◌, length, refl, sym, ap, subst, ◌∙◌, arith}
use Rattle.std.proofs.lemmas.List.{append-nil}
use mathlib.Core.Logic.{dite}
use native.Mathlib.Decide.{ℕ_discrete}
use Rattle.lot_rights.specs.declared.views.Access.{Access}
use Rattle.lot_rights.specs.declared.views.Entry.{Entry}
use Rattle.lot_rights.specs.History.{doer, entries_of, Run, SameShown, OneMoreShown, Recorded}
use Rattle.lot_rights.proofs.Histories.{one_of_mine, one_of_others}
use Rattle.lot_rights.proofs.Showing.{same_entries, more_entries}

-- each entry tells how many came before it
abbrev pub Placed : ℕ → List Entry → Type 0
Placed k [] = Unit {0}
Placed k (x ∷ xs) = (x.at ≡ k) × Placed (k + 1) xs

cons_head : {A : Type 0} (x y : A) (xs ys : List A) → x ∷ xs ≡ y ∷ ys → x ≡ y
cons_head x y xs ys e = cc

cons_tail : {A : Type 0} (x y : A) (xs ys : List A) → x ∷ xs ≡ y ∷ ys → xs ≡ ys
cons_tail x y xs ys e = cc

nil_cons : {A : Type 0} (x : A) (xs : List A) → [] ≡ x ∷ xs → ⊥
nil_cons x xs e = cc

-- an entry of a right comes no sooner than the first entry
later : (k : ℕ) (ys : List Entry) → Placed k ys → (i : ℕ) (x : Entry) (zs : List Entry) → entries_of i ys ≡ x ∷ zs → k ≤ x.at
later k [] p i x zs e = absurd (nil_cons x zs e)
later k (y ∷ ys) p i x zs e = dite (ℕ_discrete (doer y.access) i)
    (λ mine. let h : y ≡ x = cons_head y x (entries_of i ys) zs (sym (one_of_mine i y mine ys) ∙ e) in
    let q : y.at ≡ x.at = ap (λ (z : Entry). z.at) h in omega (arith, p.0))
    (λ other. omega (arith, later (k + 1) ys p.1 i x zs (sym (one_of_others i y other ys) ∙ e)))

-- no right has an entry in it: it is empty
none_at_all : (xs : List Entry) → ((i : ℕ) → entries_of i xs ≡ []) → xs ≡ []
none_at_all [] h = refl
none_at_all (x ∷ xs) h =
    absurd (nil_cons x (entries_of (doer x.access) xs) (sym (h (doer x.access)) ∙ one_of_mine (doer x.access) x refl xs))

-- a log whose entries, by right, are those of another and then those of a rest, begins with that other
begins_with : (k : ℕ) (log log' ys : List Entry) → Placed k log → Placed k log' → ((i : ℕ) → entries_of i log' ≡ entries_of i (log ++ ys))
    → (zs : List Entry) × ((log' ≡ log ++ zs) × ((i : ℕ) → entries_of i zs ≡ entries_of i ys))
begins_with k [] log' ys p p' h = (log', (refl, h))
begins_with k (x ∷ log) [] ys p p' h =
    absurd (nil_cons x (entries_of (doer x.access) (log ++ ys)) (h (doer x.access) ∙ one_of_mine (doer x.access) x refl (log ++ ys)))
begins_with k (x ∷ log) (y ∷ log') ys p p' h =
    let i : ℕ = doer x.access in
    let e : entries_of i (y ∷ log') ≡ x ∷ entries_of i (log ++ ys) = h i ∙ one_of_mine i x refl (log ++ ys) in
    let same : doer y.access ≡ i = dite (ℕ_discrete (doer y.access) i) (λ mine. mine)
    (λ other. let far : k + 1 ≤ x.at = later (k + 1) log' p'.1 i x (entries_of i (log ++ ys)) (sym (one_of_others i y other log') ∙ e) in
    absurd (omega (arith, p.0))) in
    let e' : y ∷ entries_of i log' ≡ x ∷ entries_of i (log ++ ys) = sym (one_of_mine i y same log') ∙ e in
    let head : y ≡ x = cons_head y x (entries_of i log') (entries_of i (log ++ ys)) e' in
    let rest : (u : ℕ) → entries_of u log' ≡ entries_of u (log ++ ys) = (λ u. dite (ℕ_discrete i u)
    (λ here. subst (λ w. entries_of w log' ≡ entries_of w (log ++ ys)) here
    (cons_tail y x (entries_of i log') (entries_of i (log ++ ys)) e'))
    (λ else. sym (one_of_others u y (λ q. else (sym same ∙ q)) log') ∙ (h u ∙ one_of_others u x else (log ++ ys)))) in
    let more = begins_with (k + 1) log log' ys p.1 p'.1 rest in
    (more.0, ((ap (λ z. z ∷ log') head ∙ ap (λ zs. x ∷ zs) more.1.0), more.1.1))

pub same_log : (log log' : List Entry) → Placed 0 log → Placed 0 log' → ((i : ℕ) → entries_of i log' ≡ entries_of i log) → log' ≡ log
same_log log log' p p' h =
    let b = begins_with 0 log log' [] p p' (λ i. h i ∙ ap (entries_of i) (sym (append-nil log))) in
    b.1.0 ∙ (ap (λ zs. log ++ zs) (none_at_all b.0 b.1.1) ∙ append-nil log)

-- one entry, and no other, by right: it is the list of that one
just_one : (x : Entry) (zs : List Entry) → ((i : ℕ) → entries_of i zs ≡ entries_of i (x ∷ [])) → zs ≡ x ∷ []
just_one x [] h = absurd (nil_cons x [] (h (doer x.access) ∙ one_of_mine (doer x.access) x refl []))
just_one x (z ∷ zs) h =
    let i : ℕ = doer z.access in
    let same : doer x.access ≡ i = dite (ℕ_discrete (doer x.access) i) (λ mine. mine)
    (λ other. absurd (nil_cons z (entries_of i zs) (sym (sym (one_of_mine i z refl zs) ∙ (h i ∙ one_of_others i x other []))))) in
    let e : z ∷ entries_of i zs ≡ x ∷ [] = sym (one_of_mine i z refl zs) ∙ (h i ∙ one_of_mine i x same []) in
    let none : zs ≡ [] = none_at_all zs (λ u. dite (ℕ_discrete i u)
    (λ here. subst (λ w. entries_of w zs ≡ []) here (cons_tail z x (entries_of i zs) [] e))
    (λ else. sym (one_of_others u z else zs) ∙ (h u ∙ one_of_others u x (λ q. else (sym same ∙ q)) []))) in
    ap (λ w. w ∷ zs) (cons_head z x (entries_of i zs) [] e) ∙ ap (λ ws. x ∷ ws) none

pub one_more_log : (log log' : List Entry) (x : Entry) → Placed 0 log → Placed 0 log'
    → ((i : ℕ) → entries_of i log' ≡ entries_of i (log ++ x ∷ [])) → log' ≡ log ++ x ∷ []
one_more_log log log' x p p' h = let b = begins_with 0 log log' (x ∷ []) p p' h in b.1.0 ∙ ap (λ zs. log ++ zs) (just_one x b.0 b.1.1)

module _ {S : Type 0} (Leads : S → Access → S → Type 0) where
  pub run_placed : (a : S) (k : ℕ) (log : List Entry) (b : S) → Run Leads a k log b → Placed k log
  run_placed a k [] b run = tt
  run_placed a k (x ∷ log) b run = (run.0, run_placed run.1.0 (k + 1) log b run.1.1.1)

  -- an access has one outcome
  abbrev pub OneOutcome : Type 0
  OneOutcome = (a b c : S) (x : Access) → Leads a x b → Leads a x c → b ≡ c

  pub run_one : OneOutcome → (a : S) (k : ℕ) (log : List Entry) (b c : S) → Run Leads a k log b → Run Leads a k log c → b ≡ c
  run_one one a k [] b c run run' = run ∙ sym run'
  run_one one a k (x ∷ log) b c run run' = run_one one run.1.0 (k + 1) log b c run.1.1.1
      (subst (λ z. Run Leads z (k + 1) log c) (one a run'.1.0 run.1.0 x.access run'.1.1.0 run.1.1.0) run'.1.1.1)

  -- the last access was made of what the others lead to
  pub run_last : (a : S) (k : ℕ) (log : List Entry) (x : Entry) (c : S) → Run Leads a k (log ++ x ∷ []) c
      → (b : S) × (Run Leads a k log b × ((x.at ≡ k + length log) × Leads b x.access c))
  run_last a k [] x c run = (a, (refl, (omega (arith, run.0), subst (Leads a x.access) (sym run.1.1.1) run.1.1.0)))
  run_last a k (y ∷ log) x c run =
      let l = run_last run.1.0 (k + 1) log x c run.1.1.1 in
      (l.0, ((run.0, (run.1.0, (run.1.1.0, l.1.0))), (omega (arith, l.1.1.0), l.1.1.1)))

-- ---- what the rights show
module _ {R : Type 0} (number : R → ℕ) (made : R → List Entry) {S : Type 0} (Leads : S → Access → S → Type 0) (first : S) where
  -- the rights settle the history
  pub one_history : (log log' : List Entry) (views : List (List R)) (a b : S) → Recorded number made Leads first log views a
      → Recorded number made Leads first log' views b → log ≡ log'
  one_history log log' views a b r r' =
      sym (same_log log log' (run_placed Leads first 0 log a r.run) (run_placed Leads first 0 log' b r'.run)
      (same_entries number made log views views r.listed log' r'.listed (λ i. refl)))

  module _ (one : OneOutcome Leads) (log log' : List Entry) (views views' : List (List R)) (a b : S)
      (ok : Recorded number made Leads first log views a)
      (ok' : Recorded number made Leads first log' views' b) where
    -- where the rights show one entry more, the history has just that entry more, made of what there was
    pub one_more : (x : Entry) → OneMoreShown number made views x views' → (log' ≡ log ++ x ∷ []) × (x.at ≡ length log) × Leads a x.access b
    one_more x more =
        let e : log' ≡ log ++ x ∷ [] =
        one_more_log log log' x (run_placed Leads first 0 log a ok.run) (run_placed Leads first 0 log' b ok'.run)
        (more_entries number made log views views' ok.listed log' x ok'.listed more) in
        let last = run_last Leads first 0 log x b (subst (λ w. Run Leads first 0 w b) e ok'.run) in
        (e, omega (arith, last.1.1.0), subst (λ z. Leads z x.access b) (run_one Leads one first 0 log last.0 a last.1.0 ok.run) last.1.1.1)

    -- where no right shows another entry, none is made, and all is told as before
    pub none_more : SameShown number made views views' → (log' ≡ log) × (b ≡ a)
    none_more same =
        let e : log' ≡ log = same_log log log' (run_placed Leads first 0 log a ok.run) (run_placed Leads first 0 log' b ok'.run)
        (same_entries number made log views views' ok.listed log' ok'.listed same) in
        (e, run_one Leads one first 0 log b a (subst (λ w. Run Leads first 0 w b) e ok'.run) ok.run)
