-- A sum over the passes that came back is one over the threads, where each thread's pass is there.
use Rattle.std.proofs.Common.{◌≡◌, ℕ, zero, suc, ◌+◌, ◌*◌, ◌<◌, ◌≤◌, ◌==◌, ◌⊎◌, List, [], ◌∷◌, ◌++◌, refl, sym, ap, subst, ◌∙◌, inl, inr}
use Rattle.std.proofs.Common.{⊎_elim, eq-eqb, ne_eqb, arith, sum_by, suc-mul}
use Rattle.std.specs.List.{All, Any}
use Rattle.std.proofs.lemmas.List.Elements.{All-head, All-tail}
use Rattle.std.proofs.lemmas.List.Sums.{sum_by-cons}
use Rattle.lot_rights.specs.declared.views.Right.{Right}
use Rattle.lot_rights.specs.Seating.{times}
use Rattle.lot_rights.specs.Rule.{number}
use Rattle.lot_rights.specs.Shown.{PassShown, RootShown}
use Rattle.lot_rights.specs.Closing.{passes_in, roots_in}
use Rattle.lot_core.specs.Sums.{total}
use Rattle.lot_rights.proofs.Seats.{tick, times_append}
use Rattle.lot_core.proofs.Sums.{total_same, total_but, total_none}

-- ---- one of a list
pub any_cases : {A : Type 0} (F : A → Type 0) (x : A) (xs : List A) → Any F (x ∷ xs) → F x ⊎ Any F xs
any_cases F x xs (zero, y, near, is, holds) = inl (subst F (sym is) holds)
any_cases F x xs (suc k, y, near, is, holds) = inr (k, y, omega arith, is, holds)

-- what holds of all holds of one that is named
abbrev pub any_all : {A : Type 0} (F G : A → Type 0) (xs : List A) → Any F xs → All G xs → (x : A) × F x × G x
any_all F G xs (k, x, near, is, holds) all = (x, holds, subst G is (all k x near))

-- ---- passes
module _ {P : Type 0} (R : Type 0) where
  abbrev held : List (PassShown P) → ℕ → ℕ
  held passes t = times {R = Right P R} number (2 * t) (passes_in passes)

  pub any_held : (passes : List (PassShown P)) (t : ℕ) → Any (λ (p : PassShown P). p.thread ≡ t) passes → 1 ≤ held passes t
  any_held [] t (k, x, near, is, holds) = absurd (omega arith)
  any_held (p ∷ passes) t some = ⊎_elim {C = 1 ≤ held (p ∷ passes) t}
      (λ e. let one : tick (2 * p.thread == 2 * t) ≡ 1 =
      ap tick (eq-eqb (2 * p.thread) (2 * t) (ap (λ z. 2 * z) e)) in omega arith)
      (λ rest. omega (arith, any_held passes t rest)) (any_cases (λ (x : PassShown P). x.thread ≡ t) p passes some)

  -- each pass is another thread's
  pub held_once : (passes : List (PassShown P)) (roots : List (RootShown R))
      → ((i : ℕ) → times {R = Right P R} number i (passes_in passes ++ roots_in roots) ≤ 1) → (t : ℕ) → held passes t ≤ 1
  held_once passes roots once t =
      omega (arith, once (2 * t), times_append {R = Right P R} number (2 * t) (passes_in passes) (roots_in roots))

  module _ (n : ℕ) (g : ℕ → ℕ) where
    total_held : (f : PassShown P → ℕ) (passes : List (PassShown P))
        → All (λ (p : PassShown P). (p.thread < n) × (f p ≡ g p.thread)) passes
        → total n (λ t. held passes t * g t) ≡ sum_by f passes
    total_held f [] each = total_same n (λ t. 0 * g t) (λ t. 0) (λ t near. omega arith) ∙ total_none n
    total_held f (p ∷ passes) each =
        let F : PassShown P → Type 0 = (λ x. (x.thread < n) × (f x ≡ g x.thread)) in
        let mine = All-head F p passes each in
        let t : ℕ = p.thread in
        let more = total_but n (λ u. held (p ∷ passes) u * g u) (λ u. held passes u * g u) t mine.0
        (λ u ne. let none : tick (2 * t == 2 * u) ≡ 0 = ap tick (ne_eqb (2 * t) (2 * u) (λ e. ne (omega arith))) in
        let same : held (p ∷ passes) u ≡ held passes u = omega arith in ap (λ z. z * g u) same) in
        let here : held (p ∷ passes) t * g t ≡ (1 + held passes t) * g t =
        ap (λ z. (z + held passes t) * g t) (ap tick (eq-eqb (2 * t) (2 * t) refl)) in
        let one : 1 + held passes t ≡ suc (held passes t) = omega arith in
        let spread : (1 + held passes t) * g t ≡ suc (held passes t) * g t = ap (λ z. z * g t) one in
        omega (
          arith,
          more,
          here,
          spread,
          suc-mul (held passes t) (g t),
          mine.1,
          total_held f passes (All-tail F p passes each),
          sum_by-cons f p passes,
        )

    -- where each of n threads has one pass in the list
    pub sum_is : (f : PassShown P → ℕ) (passes : List (PassShown P))
        → All (λ (p : PassShown P). (p.thread < n) × (f p ≡ g p.thread)) passes
        → ((t : ℕ) → held passes t ≤ 1) → ((t : ℕ) → t < n → Any (λ (p : PassShown P). p.thread ≡ t) passes)
        → sum_by f passes ≡ total n g
    sum_is f passes each once all = sym (total_held f passes each)
        ∙ total_same n (λ t. held passes t * g t) g
        (λ t near. let one : held passes t ≡ 1 = omega (arith, once t, any_held passes t (all t near)) in
        ap (λ z. z * g t) one ∙ omega arith)
