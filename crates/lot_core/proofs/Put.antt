-- Functions with one value changed, and cases on a line.
use Rattle.std.proofs.Common.{◌≡◌, ◌≢◌, ℕ, Bool, true, false, List, [], ◌∷◌, refl, eq-eqb, subst, sym, ap, ◌∙◌}
use Rattle.std.specs.Prelude.{◌==◌, if◌then◌else◌}
use Rattle.std.proofs.lemmas.Bool.{eqb-true, eqb-false}
use mathlib.Core.Path.{fun_ext}
pub use Rattle.lot_events.proofs.Cases.{by_bit}
use Rattle.lot_core.specs.Model.{Locks, put}
use Rattle.lot_core.specs.Rows.{told}

-- what holds of a line where it is empty, and where it has a first, holds of it
pub by_line : (Q : List ℕ → Type 0) (xs : List ℕ) → (xs ≡ [] → Q []) → ((u : ℕ) (rest : List ℕ) → xs ≡ u ∷ rest → Q (u ∷ rest)) → Q xs
by_line Q [] none some = none refl
by_line Q (u ∷ rest) none some = some u rest refl

-- what holds at the changed place, and at each other place, holds at all places
pub at_all : (Q : ℕ → Bool → Type 0) (k : ℕ) → Q k true → ((i : ℕ) → i ≢ k → Q i false) → (i : ℕ) → Q i (i == k)
at_all Q k here there i =
    by_bit (Q i) (i == k) (λ e. subst (λ j. Q j true) (sym (eqb-true i k e)) here) (λ e. there i (eqb-false i k e))

pub put_same : {X : Type 0} (f : ℕ → X) (k : ℕ) (v : X) → put f k v k ≡ v
put_same f k v = ap (λ b. if b then v else f k) (eq-eqb k k refl)

pub put_other : {X : Type 0} (f : ℕ → X) (k : ℕ) (v : X) (i : ℕ) → i ≢ k → put f k v i ≡ f i
put_other f k v i ne =
    by_bit (λ b. (if b then v else f i) ≡ f i) (i == k) (λ e. absurd (ne (eqb-true i k e))) (λ e. refl)

-- what was there, put there again
pub put_again : {X : Type 0} (f : ℕ → X) (k : ℕ) → put f k (f k) ≡ f
put_again {X} f k =
    fun_ext (λ i. by_bit (λ b. i == k ≡ b → (if b then f k else f i) ≡ f i) (i == k)
    (λ _ e. ap f (sym (eqb-true i k e))) (λ _ _. refl) refl)

-- what was put last stays
pub put_put : {X : Type 0} (f : ℕ → X) (k : ℕ) (v w : X) → put (put f k v) k w ≡ put f k w
put_put {X} f k v w = fun_ext (at_all (λ i b. (if b then w else (if b then v else f i)) ≡ (if b then w else f i)) k refl (λ i ne. refl))

-- l is held now, or not, and t has it, or has it not
abbrev pub turned : Locks → ℕ → ℕ → Bool → Locks
turned s t l held = record s { held = put s.held l held; has = put s.has l (put (s.has l) t held) }

-- what f tells of each, where one is replaced
pub told_put : {X Y : Type 0} (f : X → Y) (g : ℕ → X) (k : ℕ) (v : X) → told f (put g k v) ≡ put (told f g) k (f v)
told_put {X} {Y} f g k v = fun_ext (at_all (λ i b. f (if b then v else g i) ≡ (if b then f v else f (g i))) k refl (λ i ne. refl))

-- where f tells alike of the old and the new
pub told_same : {X Y : Type 0} (f : X → Y) (g : ℕ → X) (k : ℕ) (v : X) → f v ≡ f (g k) → told f (put g k v) ≡ told f g
told_same {X} {Y} f g k v same = told_put f g k v ∙ ap (put (told f g) k) same ∙ put_again (told f g) k
