-- What is so of the rights that an opening answered, of each that was taken from them, and of those that are back.
use Rattle.std.proofs.Common.{◌≡◌, ℕ, ◌<◌, List, [], ◌∷◌, ◌++◌, length, get_or, refl, sym, subst, arith}
use Rattle.std.specs.List.{All}
use Rattle.std.proofs.lemmas.List.Elements.{All-push}
use Rattle.std.proofs.lemmas.Option.{get_or_from_slice_get}
use Rattle.atomic_table.specs.Seated.{TableId}
use Rattle.lot_core.proofs.Rows.{get_or_replicate}
use Rattle.lot_rights.specs.Shown.{PassShown}
use Rattle.lot_rights.proofs.Dealt.{Dealt, AllBack, dealt_last, none_back, one_back}
use Rattle.lot_words.specs.declared.views.Hold.TheVariants.{NotHeld}
use Rattle.lot_words.specs.declared.views.LockPassView.{LockPassView}
use Rattle.lot_words.specs.World.{IsHeld}
use Rattle.lot_words.specs.Closing.{HoldsNone}
use Rattle.lot_words.specs.Shown.{pass_at}
use Rattle.base_trials.specs.LockSchedules.{HasNothing}

-- two rights, or three, were taken from the last on: each is what the opening made of its number
module _ {A : Type 0} (right : ℕ → A) (Fresh : ℕ → A → Type 0) (fresh : (k : ℕ) (x : A) → x ≡ right k → Fresh k x) where
  pub two_taken : (xs ys left : List A) (second first : A) → xs ≡ ys ++ second ∷ [] → ys ≡ left ++ first ∷ [] → Dealt right 2 xs
      → Fresh 0 first × Fresh 1 second
  two_taken xs ys left second first a b dealt =
      let last = dealt_last right 1 xs ys second a dealt in
      (fresh 0 first (dealt_last right 0 ys left first b last.1).0, fresh 1 second last.0)

  pub three_taken : (xs ys zs left : List A) (third second first : A) → xs ≡ ys ++ third ∷ [] → ys ≡ zs ++ second ∷ []
      → zs ≡ left ++ first ∷ [] → Dealt right 3 xs
      → Fresh 0 first × Fresh 1 second × Fresh 2 third
  three_taken xs ys zs left third second first a b c dealt =
      let last = dealt_last right 2 xs ys third a dealt in
      let others = two_taken ys zs left second first b c last.1 in
      (others.0, others.1, fresh 2 third last.0)

-- and were given back in order
module _ {A : Type 0} (number : A → ℕ) (none xs ys : List A) (first second : A) (a : xs ≡ none ++ first ∷ [])
    (b : ys ≡ xs ++ second ∷ []) (is_first : number first ≡ 0) (is_second : number second ≡ 1) where
  pub two_back : AllBack number 2 ys
  two_back = one_back number 1 xs ys second b is_second (one_back number 0 none xs first a is_first (none_back number none))

  pub three_back : (zs : List A) (third : A) → zs ≡ ys ++ third ∷ [] → number third ≡ 2 → AllBack number 3 zs
  three_back zs third c is_third = one_back number 2 ys zs third c is_third two_back

module _ {A : Type 0} (right : ℕ → A) (n : ℕ) (xs : List A) (dealt : Dealt right n xs) where
  pub all_dealt : (F : A → Type 0) → ((k : ℕ) → k < n → F (right k)) → All F xs
  all_dealt F each k none near =
      let few : k < n = omega (arith, near, dealt.0) in
      subst F (sym (get_or_from_slice_get xs k (right k) none (dealt.1 k few))) (each k few)

  pub all_back : (number : A → ℕ) → ((k : ℕ) → number (right k) ≡ k) → AllBack number n xs
  all_back number names k few =
      (k, right k, omega (arith, few, dealt.0), get_or_from_slice_get xs k (right k) (right k) (dealt.1 k few), names k)

-- the passes of an opening of two locks, of which the last came back with nothing
module _ {V : Type 0} (z : TableId) (xs : List V) (n : ℕ) (rest all : List (PassShown (LockPassView V)))
    (last : PassShown (LockPassView V)) (dealt : Dealt (pass_at z xs) n rest) (is : all ≡ rest ++ last ∷ [])
    (back : HasNothing z n last) where
  of_all : (F : PassShown (LockPassView V) → Type 0) → ((k : ℕ) → F (pass_at z xs k)) → F last → All F all
  of_all F each one = subst (All F) (sym is) (All-push F rest last (all_dealt (pass_at z xs) n rest dealt F (λ k _. each k)) one)

  pub all_here : All (λ (p : PassShown (LockPassView V)). p.table ≡ z) all
  all_here = of_all (λ p. p.table ≡ z) (λ k. refl) back.0.0

  none_of_two : (l : ℕ) → ¬ IsHeld (get_or (NotHeld ∷ NotHeld ∷ []) l NotHeld)
  none_of_two l = subst (λ h. ¬ IsHeld h) (sym (get_or_replicate NotHeld 2 l)) (λ h. h)

  pub all_idle : All HoldsNone all
  all_idle = of_all HoldsNone (λ k l. subst (λ h. ¬ IsHeld h) (sym (get_or_replicate NotHeld (length xs) l)) (λ h. h))
      (λ l. subst (λ hs. ¬ IsHeld (get_or hs l NotHeld)) (sym back.2) (none_of_two l))
