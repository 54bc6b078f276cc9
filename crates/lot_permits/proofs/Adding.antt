-- Accesses that are added one after the other.
use Rattle.std.proofs.Common.{◌≡◌, ℕ, true, List, [], ◌∷◌, ◌++◌, refl, sym, ap, subst, ◌∙◌}
use Rattle.std.specs.List.{All}
use Rattle.std.proofs.lemmas.List.{append_assoc, append-nil}
use Rattle.std.proofs.lemmas.List.Elements.{All-nil, All-cons, All-append}
use Rattle.lot_events.specs.declared.events.Event.TheVariants.{SemTake}
use Rattle.lot_events.specs.declared.events.Seen.TheVariants.{Bool as Saw}
use Rattle.lot_rights.specs.declared.views.Access.{Access}
use Rattle.lot_rights.specs.declared.views.Access.TheVariants.{Makes, Finds}
use Rattle.lot_scheme.specs.Standing.{LotStanding, adding}
use Rattle.lot_scheme.specs.Traces.{IsPermitSeek, GetPermitTrace, TookTrace, BusyTrace}

module _ {V : Type 0} where
  pub adding_on : (p : LotStanding V) (xs ys : List Access) → adding (adding p xs) ys ≡ adding p (xs ++ ys)
  adding_on p xs ys = ap (λ (did : List Access). record p { did = did }) (append_assoc p.did xs ys)

  pub adding_none : (p : LotStanding V) → adding p [] ≡ p
  adding_none p = ap (λ (did : List Access). record p { did = did }) (append-nil p.did)

module _ (t k : ℕ) where
  -- a permit that is got later is got
  pub get_after : (xs ys : List Access) → All (IsPermitSeek t k) xs → GetPermitTrace t k ys → GetPermitTrace t k (xs ++ ys)
  get_after xs ys sought (front, before, (word, left, is)) = (
    xs ++ front,
    All-append (IsPermitSeek t k) xs front sought before,
    (
      word,
      left,
      ap (λ (zs : List Access). xs ++ zs) is
          ∙ sym (append_assoc xs front (Finds t k word ∷ Makes (SemTake t k) (Saw true) ∷ [])),
    ),
  )

  pub took_it : (acts : List Access) → TookTrace t k acts → GetPermitTrace t k acts
  took_it acts (word, left, is) = ([], All-nil (IsPermitSeek t k), (word, left, is))

  pub one_seek : (a : Access) → IsPermitSeek t k a → All (IsPermitSeek t k) (a ∷ [])
  one_seek a is = All-cons (IsPermitSeek t k) a [] is (All-nil (IsPermitSeek t k))

  pub seek_on : (xs : List Access) (a : Access) → All (IsPermitSeek t k) xs → IsPermitSeek t k a → All (IsPermitSeek t k) (xs ++ a ∷ [])
  seek_on xs a sought is = All-append (IsPermitSeek t k) xs (a ∷ []) sought (one_seek a is)

  pub busy_seek : (acts : List Access) → BusyTrace t k acts → All (IsPermitSeek t k) acts
  busy_seek acts (seen, found, left, other, is) = subst (λ (xs : List Access). All (IsPermitSeek t k) xs) (sym is)
      (All-cons (IsPermitSeek t k) (Finds t k seen) (Finds t k found ∷ []) (refl, refl) (one_seek (Finds t k found) (refl, refl)))
