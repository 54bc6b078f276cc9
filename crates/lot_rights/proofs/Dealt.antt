-- What a caller does with the rights that an opening answered: it takes them from the last on, and gives them back in
-- order.
use Rattle.std.proofs.Common.{◌≡◌, ℕ, ◌+◌, ◌<◌, List, [], ◌∷◌, ◌++◌, length, slice_get, sym, ap, subst, ◌∙◌, ⊎_elim, arith, Some}
use Rattle.std.proofs.Common.{length-append}
use Rattle.std.specs.List.{Any}
use Rattle.std.proofs.lemmas.Bool.{cases_lt}
use Rattle.std.proofs.lemmas.List.Quantifiers.{Any-push}
use Rattle.std.proofs.lemmas.Grind.{common_steps}
use Rattle.lot_rights.proofs.Deals.{get_before, get_last}

module _ {A : Type 0} where
  -- the rights are those of the first n numbers
  abbrev pub Dealt : (ℕ → A) → ℕ → List A → Type 0
  Dealt right n xs = (length xs ≡ n) × ((k : ℕ) → k < n → slice_get xs k ≡ Some (right k))

  pub dealt_last : (right : ℕ → A) (n : ℕ) (xs ys : List A) (x : A) → xs ≡ ys ++ x ∷ [] → Dealt right (n + 1) xs
      → (x ≡ right n) × Dealt right n ys
  dealt_last right n xs ys x is dealt =
      let long : length xs ≡ length ys + 1 = ap length is ∙ length-append ys (x ∷ []) in
      let len : length ys ≡ n = omega (arith, dealt.0) in (
        (let e : Some x ≡ Some (right n) =
            sym (get_last ys x) ∙ (ap (slice_get (ys ++ x ∷ [])) len ∙ (ap (λ z. slice_get z n) (sym is) ∙ dealt.1 n (omega arith))) in cc),
        (len, (λ k near. sym (get_before ys x k (omega (arith, len))) ∙ (ap (λ z. slice_get z k) (sym is) ∙ dealt.1 k (omega arith)))),
      )

  -- each of the first n numbers is one of the list's
  abbrev pub AllBack : (A → ℕ) → ℕ → List A → Type 0
  AllBack number n xs = (i : ℕ) → i < n → Any (λ x. number x ≡ i) xs

  any_more : (F : A → Type 0) (xs : List A) (y : A) → Any F xs → Any F (xs ++ y ∷ [])
  any_more F xs y (k, x, near, is, holds) = (k, x, grind (arith, common_steps), grind (arith, common_steps), holds)

  pub none_back : (number : A → ℕ) (xs : List A) → AllBack number 0 xs
  none_back number xs i near = absurd (omega arith)

  pub one_back : (number : A → ℕ) (n : ℕ) (xs ys : List A) (x : A) → ys ≡ xs ++ x ∷ [] → number x ≡ n → AllBack number n xs
      → AllBack number (n + 1) ys
  one_back number n xs ys x is its all i near = subst (Any (λ y. number y ≡ i)) (sym is)
      (⊎_elim {C = Any (λ y. number y ≡ i) (xs ++ x ∷ [])} (λ low. any_more (λ y. number y ≡ i) xs x (all i low))
      (λ high. Any-push (λ y. number y ≡ i) xs x (omega arith)) (cases_lt i n))
