-- Accesses that find no letter.
use Rattle.std.proofs.Common.{◌≡◌, ◌≢◌, ℕ, ◌+◌, Bool, true, false, MatchBool, cond, List, [], ◌∷◌, ◌++◌, ◌⊎◌, inl, inr, refl}
use Rattle.std.proofs.Common.{ap, ◌∙◌, arith}
use mathlib.Core.Logic.{dite}
use native.Mathlib.Decide.{ℕ_discrete}
use Rattle.std.specs.List.{sum_by}
use Rattle.std.proofs.lemmas.List.Sums.{sum_by-append, sum_by-cons}
use Rattle.lot_rights.specs.declared.views.Access.{Access}
use Rattle.lot_rights.specs.declared.views.Access.TheVariants.{Finds}
use Rattle.lot_words.specs.CallersRule.{CallersRule}
use Rattle.lot_scheme.specs.Standing.{LotStanding, adding, wanting}
use Rattle.lot_scheme.specs.LockCalls.{GetsLock}
use Rattle.lot_locks.specs.Standing.{is_letter, letters_in}

none_more : (acts : List Access) (a : Access) → is_letter a ≡ false → letters_in (acts ++ a ∷ []) ≡ letters_in acts
none_more acts a none =
    let f : Access → ℕ = λ x. cond (is_letter x) 1 0 in
    let own : sum_by f (a ∷ []) ≡ 0 = sum_by-cons f a [] ∙ ap (λ b. cond b 1 0 + sum_by f []) none in
    sum_by-append f acts (a ∷ []) ∙ (ap (λ n. sum_by f acts + n) own ∙ omega arith)

module _ {V : Type 0} where
  -- one access more, which found none
  pub no_letter : (p q : LotStanding V) (a : Access) → is_letter a ≡ false → q.did ≡ p.did ++ a ∷ []
      → letters_in q.did ≡ letters_in p.did
  no_letter p q a none is = ap letters_in is ∙ none_more p.did a none

  -- a mark, whether it was made or not; a validation
  pub marked_awake : (p q : LotStanding V) (does : Bool) (l : ℕ) (a : Access) → is_letter a ≡ false
      → MatchBool does (q ≡ adding p (a ∷ [])) ((word : ℕ) × (word ≢ 1) × (q ≡ adding p (Finds p.thread l word ∷ [])))
      → letters_in q.did ≡ letters_in p.did
  marked_awake p q true l a none is = no_letter p q a none (ap (λ (z : LotStanding V). z.did) is)
  marked_awake p q false l a none (word, other, is) = no_letter p q (Finds p.thread l word) refl (ap (λ (z : LotStanding V). z.did) is)

  pub parked_awake : (p p' q : LotStanding V) (does : Bool) (a b : Access) → is_letter a ≡ false → is_letter b ≡ false → p'.did ≡ p.did
      → MatchBool does (q ≡ adding p' (a ∷ [])) (q ≡ adding p (b ∷ []))
      → letters_in q.did ≡ letters_in p.did
  parked_awake p p' q true a b none none' same is = no_letter p' q a none (ap (λ (z : LotStanding V). z.did) is) ∙ ap letters_in same
  parked_awake p p' q false a b none none' same is = no_letter p q b none' (ap (λ (z : LotStanding V). z.did) is)

module _ {V Part : Type 0} (rule : CallersRule V Part) where
  -- a lock that was got by an access that finds no letter, or was not got
  pub took_awake : (p q : LotStanding V) (does : Bool) (l : ℕ) (a b : Access) → is_letter a ≡ false → is_letter b ≡ false
      → MatchBool does (GetsLock rule p l a q) (q ≡ adding (wanting p l) (b ∷ []))
      → letters_in q.did ≡ letters_in p.did
  took_awake p q true l a b none none' (x, found, is) = no_letter p q a none (ap (λ (z : LotStanding V). z.did) is)
  took_awake p q false l a b none none' is = no_letter p q b none' (ap (λ (z : LotStanding V). z.did) is)

  pub free_awake : (p q : LotStanding V) (l word : ℕ) (a : Access) → is_letter a ≡ false → (word ≡ 0 → GetsLock rule p l a q)
      → (word ≢ 0 → q ≡ adding p (Finds p.thread l word ∷ [])) → letters_in q.did ≡ letters_in p.did
  free_awake p q l word a none got missed = dite (ℕ_discrete word 0)
      (λ e. no_letter p q a none (ap (λ (z : LotStanding V). z.did) (got e).2))
      (λ else. no_letter p q (Finds p.thread l word) refl (ap (λ (z : LotStanding V). z.did) (missed else)))

-- where nothing was found before, it is found then, or something ran
pub ran_on : {A : Type 0} (x y z : ℕ) → y ≡ z → (x ≡ y) ⊎ A → (x ≡ z) ⊎ A
ran_on x y z same (inl e) = inl (e ∙ same)
ran_on x y z same (inr ran) = inr ran
