-- Lists whose items answer each other, place by place.
use Rattle.std.proofs.Common.{◌≡◌, List, [], ◌∷◌, map, refl}
use Rattle.std.specs.List.{AllZip}

module _ {X Y : Type 0} (R : X → Y → Type 0) where
  -- where each item of the second list is made of that of the first, so is the list
  pub zip_map : (f : X → Y) → ((x : X) (y : Y) → R x y → y ≡ f x) → (xs : List X) (ys : List Y) → AllZip R xs ys → ys ≡ map f xs
  zip_map f is [] [] each = refl
  zip_map f is [] (y ∷ ys) each = absurd each
  zip_map f is (x ∷ xs) [] each = absurd each
  zip_map f is (x ∷ xs) (y ∷ ys) each = λ i. is x y each.0 i ∷ zip_map f is xs ys each.1 i

  -- and the other way round
  pub zip_back : (f : Y → X) → ((x : X) (y : Y) → R x y → f y ≡ x) → (xs : List X) (ys : List Y) → AllZip R xs ys → map f ys ≡ xs
  zip_back f is [] [] each = refl
  zip_back f is [] (y ∷ ys) each = absurd each
  zip_back f is (x ∷ xs) [] each = absurd each
  zip_back f is (x ∷ xs) (y ∷ ys) each = λ i. is x y each.0 i ∷ zip_back f is xs ys each.1 i
