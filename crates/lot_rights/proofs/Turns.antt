-- Elements that move from the end of one list to the end of another, and lists that are known by their places.
use Rattle.std.proofs.Common.{◌≡◌, ℕ, ◌<◌, zero, suc, List, [], ◌∷◌, ◌++◌, length, map, slice_get, Some, None, reverse, append_assoc, refl}
use Rattle.std.proofs.Common.{sym, ap, subst, ◌∙◌, ⊎_elim, arith}
use Rattle.std.proofs.lemmas.List.{reverse-append, map-append}
use Rattle.std.specs.List.{All, Any}
use Rattle.std.proofs.lemmas.List.Elements.{All-nil, All-cons, All-push, All-head, All-tail}
use Rattle.lot_rights.proofs.Totals.{any_cases}

pub some_one : {A : Type 0} (x y : A) → Some x ≡ Some y → x ≡ y
some_one x y e = cc

none_some : {A : Type 0} (x : A) → None ≡ Some x → ⊥
none_some x e = cc

pub moves_on : {A : Type 0} (xs xs' : List A) (x : A) (ys all : List A) → xs ≡ xs' ++ x ∷ [] → xs ++ reverse ys ≡ all
    → xs' ++ reverse (ys ++ x ∷ []) ≡ all
moves_on xs xs' x ys all e h =
    ap (λ zs. xs' ++ zs) (reverse-append ys (x ∷ []))
    ∙ (sym (append_assoc xs' (x ∷ []) (reverse ys)) ∙ (ap (λ zs. zs ++ reverse ys) (sym e) ∙ h))

module _ {A : Type 0} where
  reverse-cons : (x : A) (xs : List A) → reverse (x ∷ xs) ≡ reverse xs ++ x ∷ []
  reverse-cons x xs = reverse-append (x ∷ []) xs

  pub no_elements : (xs : List A) → length xs ≡ 0 → xs ≡ []
  no_elements [] e = refl
  no_elements (x ∷ xs) e = absurd (omega (arith, e))

  pub all_turned : (P : A → Type 0) (xs : List A) → All P xs → All P (reverse xs)
  all_turned P [] all = All-nil P
  all_turned P (x ∷ xs) all =
      subst (All P) (sym (reverse-cons x xs)) (All-push P (reverse xs) x (all_turned P xs (All-tail P x xs all)) (All-head P x xs all))

  -- one of which P holds, behind another
  any_later : (P : A → Type 0) (x : A) (xs : List A) → Any P xs → Any P (x ∷ xs)
  any_later P x xs (k, y, near, is, holds) = (suc k, y, omega (arith, near), is, holds)

  -- what holds of the element at k holds of some element
  pub some_at : (P : A → Type 0) (xs : List A) (k : ℕ) → k < length xs → ((x : A) → slice_get xs k ≡ Some x → P x) → Any P xs
  some_at P [] k near holds = absurd (omega arith)
  some_at P (x ∷ xs) zero near holds = (zero, x, near, refl, holds x refl)
  some_at P (x ∷ xs) (suc k) near holds = any_later P x xs (some_at P xs k (omega arith) holds)

  -- what stands at i is f i
  pub stands_at : (f : ℕ → A) (xs : List A) → ((k : ℕ) → k < length xs → slice_get xs k ≡ Some (f k)) → (i : ℕ) (x : A)
      → slice_get xs i ≡ Some x → (i < length xs) × (x ≡ f i)
  stands_at f [] are i x at = absurd (none_some x at)
  stands_at f (y ∷ xs) are zero x at = (omega arith, some_one x (f zero) (sym at ∙ are zero (omega arith)))
  stands_at f (y ∷ xs) are (suc i) x at =
      let r = stands_at (λ k. f (suc k)) xs (λ k near. are (suc k) (omega arith)) i x at in (omega (arith, r.0), r.1)

  pub all_by_place : (P : A → Type 0) (f : ℕ → A) (xs : List A) → ((k : ℕ) → k < length xs → slice_get xs k ≡ Some (f k))
      → ((k : ℕ) → k < length xs → P (f k)) → All P xs
  all_by_place P f [] are holds = All-nil P
  all_by_place P f (x ∷ xs) are holds = All-cons P x xs
      (subst P (sym (some_one x (f zero) (are zero (omega arith)))) (holds zero (omega arith)))
      (all_by_place P (λ k. f (suc k)) xs (λ k near. are (suc k) (omega arith)) (λ k near. holds (suc k) (omega arith)))

  pub some_by_place : (P : A → Type 0) (f : ℕ → A) (xs : List A) → ((k : ℕ) → k < length xs → slice_get xs k ≡ Some (f k)) → (i : ℕ)
      → i < length xs → P (f i) → Any P xs
  some_by_place P f xs are i near holds = some_at P xs i near (λ x at. subst P (sym (stands_at f xs are i x at).1) holds)

module _ {A B : Type 0} (f : A → B) where
  pub some_before : (P : B → Type 0) (xs : List A) → Any P (map f xs) → Any (λ x. P (f x)) xs
  some_before P [] (k, y, near, is, holds) = absurd (omega (arith, near))
  some_before P (x ∷ xs) some =
      ⊎_elim {C = Any (λ y. P (f y)) (x ∷ xs)} (λ here. (zero, x, omega arith, refl, here))
      (λ later. any_later (λ y. P (f y)) x xs (some_before P xs later))
      (any_cases P (f x) (map f xs) some)

  pub map_turned : (xs : List A) → map f (reverse xs) ≡ reverse (map f xs)
  map_turned [] = refl
  map_turned (x ∷ xs) =
      ap (map f) (reverse-append (x ∷ []) xs)
      ∙ (map-append f (reverse xs) (x ∷ []) ∙ (ap (λ ys. ys ++ f x ∷ []) (map_turned xs) ∙ sym (reverse-append (f x ∷ []) (map f xs))))
