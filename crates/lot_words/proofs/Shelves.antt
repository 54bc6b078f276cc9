-- Values that lie in slots.
use Rattle.std.proofs.Common.{◌≡◌, List, [], ◌∷◌, Option, Some, map, refl, ap, ◌∙◌}
use Rattle.std.specs.List.{All}
use Rattle.std.specs.Option.{IsSome}
use Rattle.std.proofs.lemmas.List.Elements.{All-map}

module _ {V : Type 0} where
  abbrev filled : List V → List (Option V)
  filled xs = map (λ (x : V). Some x) xs

  pub all_some_filled : (vs : List V) → All IsSome (filled vs)
  all_some_filled vs = All-map IsSome (λ (x : V). Some x) vs (λ k d near. refl)

  some_one : (x y : V) → Some x ≡ Some y → x ≡ y
  some_one x y e = cc

  heads : (s t : Option V) (ss ts : List (Option V)) → s ∷ ss ≡ t ∷ ts → s ≡ t
  heads s t ss ts e = cc

  tails : (s t : Option V) (ss ts : List (Option V)) → s ∷ ss ≡ t ∷ ts → ss ≡ ts
  tails s t ss ts e = cc

  -- the same slots are of the same values
  pub same_values_back : (xs ys : List V) → filled xs ≡ filled ys → xs ≡ ys
  same_values_back [] [] e = refl
  same_values_back [] (y ∷ ys) e = absurd (none_cons (Some y) (filled ys) e) where
    none_cons : (s : Option V) (ss : List (Option V)) → [] ≡ s ∷ ss → ⊥
    none_cons s ss e = cc
  same_values_back (x ∷ xs) [] e = absurd (cons_none (Some x) (filled xs) e) where
    cons_none : (s : Option V) (ss : List (Option V)) → s ∷ ss ≡ [] → ⊥
    cons_none s ss e = cc
  same_values_back (x ∷ xs) (y ∷ ys) e = ap (λ z. z ∷ xs) (some_one x y (heads (Some x) (Some y) (filled xs) (filled ys) e))
      ∙ ap (λ zs. y ∷ zs) (same_values_back xs ys (tails (Some x) (Some y) (filled xs) (filled ys) e))
