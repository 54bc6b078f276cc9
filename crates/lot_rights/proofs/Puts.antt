-- Cases on a test of two numbers, and on a function with one value changed.
use Rattle.std.proofs.Common.{◌≡◌, ◌≢◌, ℕ, ◌==◌, Bool, true, false, cond, subst, sym, ap, ◌∙◌, eq-eqb, ne_eqb}
use mathlib.Core.Path.{fun_ext}
use mathlib.Core.Logic.{dite}
use native.Mathlib.Decide.{ℕ_discrete}
use Rattle.lot_core.specs.Model.{put}

pub by_test : (P : Bool → Type 0) (j k : ℕ) → (j ≡ k → P true) → (j ≢ k → P false) → P (j == k)
by_test P j k here there =
    dite (ℕ_discrete j k) (λ e. subst P (sym (eq-eqb j k e)) (here e)) (λ ne. subst P (sym (ne_eqb j k ne)) (there ne))

-- what holds of x where j is k, and of f j elsewhere, holds at j
pub put_elim : {A : Type 0} (P : A → Type 0) (f : ℕ → A) (k : ℕ) (x : A) (j : ℕ) → (j ≡ k → P x) → (j ≢ k → P (f j)) → P (put f k x j)
put_elim P f k x j here there = by_test (λ b. P (cond b x (f j))) j k here there

-- a function that is another with one value changed
pub is_put : {A : Type 0} (f g : ℕ → A) (k : ℕ) (x : A) → f k ≡ x → ((j : ℕ) → j ≢ k → f j ≡ g j) → f ≡ put g k x
is_put f g k x here else = fun_ext (λ j. put_elim (λ z. f j ≡ z) g k x j (λ e. ap f e ∙ here) (else j))
