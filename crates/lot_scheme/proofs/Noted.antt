-- How a lot's pass stands after one entry more.
use Rattle.std.proofs.Common.{◌≡◌, List, [], ◌∷◌, ◌++◌, map, refl, ap, ◌∙◌}
use Rattle.lot_rights.specs.declared.views.Access.{Access}
use Rattle.lot_rights.specs.declared.views.Entry.{Entry}
use Rattle.lot_rights.specs.Shown.{PassShown}
use Rattle.lot_rights.specs.Steps.{Notes}
use Rattle.lot_whole.specs.declared.views.LotPassView.{LotPassView}
use Rattle.lot_scheme.specs.Standing.{standing, adding}

map-append : {A B : Type 0} → (f : A → B) → (xs ys : List A) → map f (xs ++ ys) ≡ map f xs ++ map f ys
map-append f [] ys = refl
map-append f (x ∷ xs) ys = ap (λ zs. f x ∷ zs) (map-append f xs ys)

module _ {V : Type 0} where
  -- a pass that knows this now, with this one entry more
  pub noted : (p : PassShown (LotPassView V)) (own : LotPassView V) (a : Access) (q : PassShown (LotPassView V)) → Notes p own a q
      → standing q ≡ adding (record (standing p) { own = own }) (a ∷ [])
  noted p own a q (k, is) = ap standing is ∙ ap (λ did. record { thread = p.thread; own = own; did = did })
      (map-append (λ (e : Entry). e.access) p.made (record { at = k; access = a } ∷ []))
