-- Slots that are emptied one after the other.
use Rattle.std.proofs.Common.{◌≡◌, ◌≢◌, ℕ, zero, suc, ◌+◌, ◌<◌, ◌≤◌, ◌⊎◌, Bool, true, false, List, [], ◌∷◌, ◌++◌, length, get_or, set, Some}
use Rattle.std.proofs.Common.{None, slice_get, refl, sym, subst, ◌∙◌, inl, inr}
use Rattle.std.proofs.Common.{⊎_elim, arith, get_or-set_other}
use mathlib.Core.Logic.{dite}
use native.Mathlib.Decide.{ℕ_discrete}

-- an emptied place is not full
emptied : (fs : List Bool) (i : ℕ) → get_or (set fs i false) i false ≡ false
emptied [] i = refl
emptied (f ∷ fs) zero = refl
emptied (f ∷ fs) (suc i) = emptied fs i

pub emptied_so_far : (fs fs' : List Bool) (i : ℕ) → fs' ≡ set fs i false → ((k : ℕ) → k < i → get_or fs k false ≡ false) → (k : ℕ)
    → k < i + 1 → get_or fs' k false ≡ false
emptied_so_far fs fs' i e before k near = subst (λ gs. get_or gs k false ≡ false) (sym e) (dite (ℕ_discrete k i)
    (λ here. subst (λ j. get_or (set fs i false) j false ≡ false) (sym here) (emptied fs i))
    (λ else. get_or-set_other fs i k false false else ∙ before k (omega arith)))

pub full_from_here : (fs fs' : List Bool) (i n : ℕ) → fs' ≡ set fs i false → ((k : ℕ) → i ≤ k → k < n → get_or fs k false ≡ true) → (k : ℕ)
    → i + 1 ≤ k → k < n → get_or fs' k false ≡ true
full_from_here fs fs' i n e full k past near = subst (λ gs. get_or gs k false ≡ true) (sym e)
    (let else : k ≢ i = (λ q. absurd (omega arith)) in get_or-set_other fs i k false false else ∙ full k (omega arith) near)

-- what an element added last is found as
pub get_snoc : {A : Type 0} (xs : List A) (x y : A) (k : ℕ) → slice_get (xs ++ x ∷ []) k ≡ Some y
    → (slice_get xs k ≡ Some y) ⊎ ((k ≡ length xs) × (x ≡ y))
get_snoc [] x y zero e = inr (refl, (let f : Some x ≡ Some y = e in cc))
get_snoc [] x y (suc k) e = absurd (let f : None ≡ Some y = e in cc)
get_snoc (z ∷ xs) x y zero e = inl e
get_snoc (z ∷ xs) x y (suc k) e = ⊎_elim (λ old. inl old) (λ new. inr (omega (arith, new.0), new.1)) (get_snoc xs x y k e)
