-- What the calls of the tests' schedules leave of a pass.
use Rattle.std.proofs.Common.{◌≡◌, ℕ, ◌<◌, Bool, true, false, List, [], ◌∷◌, length, set, replicate, refl, sym, ap, subst, ◌∙◌, arith}
use Rattle.std.proofs.Common.{MatchBool, MatchOption, Option, Some, None, get_or-set_same, ◌++◌, slice_get}
use Rattle.std.proofs.lemmas.List.{length-replicate}
use Rattle.atomic_table.specs.Seated.{TableId}
use Rattle.atomic_table.proofs.Lists.{set_here}
use Rattle.lot_rights.specs.declared.views.Access.{Access}
use Rattle.lot_rights.specs.Shown.{PassShown, RootShown}
use Rattle.lot_rights.specs.Steps.{Notes}
use Rattle.lot_words.specs.declared.views.Hold.TheVariants.{NotHeld, Held}
use Rattle.lot_words.specs.declared.views.LockPassView.{LockPassView}
use Rattle.lot_words.specs.declared.views.LockRootView.{LockRootView}
use Rattle.lot_words.specs.declared.views.Place.TheVariants.{InSlot, Out}
use Rattle.lot_words.specs.CallersRule.{CallersRule}
use Rattle.lot_words.specs.World.{IsHeld}
use Rattle.lot_words.specs.Calls.{owning, wanting, woken, GetsBy, FoundNone, Collected}
use Rattle.base_trials.specs.LockSchedules.{IsPass, IsCalm, Owns, IsRoot, Gets, ComesToWant, StaysCalm}
use Rattle.base_trials.proofs.Dealt.{two_taken}
use Rattle.lot_words.specs.Shown.{pass_at, root_at}

module _ {V : Type 0} (p : PassShown (LockPassView V)) (z : TableId) (t l : ℕ) (is : IsPass z t p) (near : l < 2) where
  -- who got a lock of two owns it
  grips : (x : V) → p.own.asleep ≡ false → Owns (owning p.own l x) l
  grips x up = (
    (up, refl),
    subst IsHeld (sym (get_or-set_same p.own.holds l Held NotHeld (omega (arith, is.2)))) tt,
    (x, set_here p.own.places l (InSlot x) (omega (arith, is.3)), set_here p.own.seen l x (omega (arith, is.4))),
  )

  module _ {Part : Type 0} (rule : CallersRule V Part) (a c : Access) (q : PassShown (LockPassView V)) (b : Bool)
      (up : p.own.asleep ≡ false) where
    got : GetsBy rule p l a q → Gets p.own l q.own
    got h = subst (λ (y : PassShown (LockPassView V)). Gets p.own l y.own) (sym h.2.1) (grips h.0 up, refl)

    pub took : MatchBool b (GetsBy rule p l a q) (Notes p (wanting p.own l) c q)
        → MatchBool b (Gets p.own l q.own) (ComesToWant p.own l q.own)
    took = by_bool b
      where
        by_bool : (b : Bool) → MatchBool b (GetsBy rule p l a q) (Notes p (wanting p.own l) c q)
            → MatchBool b (Gets p.own l q.own) (ComesToWant p.own l q.own)
        by_bool true h = got h
        by_bool false h = subst (λ (y : PassShown (LockPassView V)). ComesToWant p.own l y.own) (sym h.1) ((up, refl), refl)

    pub tried : p.own.aim ≡ None → MatchBool b (GetsBy rule p l a q) (Notes p p.own c q)
        → MatchBool b (Gets p.own l q.own) (StaysCalm p.own q.own)
    tried aim = by_bool b
      where
        by_bool : (b : Bool) → MatchBool b (GetsBy rule p l a q) (Notes p p.own c q)
            → MatchBool b (Gets p.own l q.own) (StaysCalm p.own q.own)
        by_bool true h = got h
        by_bool false h = subst (λ (y : PassShown (LockPassView V)). StaysCalm p.own y.own) (sym h.1) ((up, aim), refl)

  -- to whom it was handed owns it
  pub was_handed : {Part : Type 0} (rule : CallersRule V Part) (q : PassShown (LockPassView V)) (o : Option ℕ)
      → p.own.aim ≡ Some l → o ≡ Some 1
      → MatchOption o (FoundNone p q) (λ token. Collected rule p token q)
      → Owns q.own l × (q.own.holds ≡ set p.own.holds l Held)
  was_handed rule q o aim one letter =
      let h : Collected rule p 1 q =
      subst (λ o. MatchOption o (FoundNone p q) (λ token. Collected rule p token q)) one letter in
      let same : h.2.0 ≡ l = (let e : Some h.2.0 ≡ Some l = sym h.2.1 ∙ aim in cc) in
      let x : V = h.2.2.0 in
      let is_now : q.own ≡ woken (owning p.own l x) = ap (λ (y : PassShown (LockPassView V)). y.own) h.2.2.2.1
      ∙ ap (λ k. woken (owning p.own k x)) same in (
        subst (λ y. Owns y l) (sym is_now) (
          (refl, refl),
          subst IsHeld (sym (get_or-set_same p.own.holds l Held NotHeld (omega (arith, is.2)))) tt,
          (x, set_here p.own.places l (InSlot x) (omega (arith, is.3)), set_here p.own.seen l x (omega (arith, is.4))),
        ),
        ap (λ (y : LockPassView V). y.holds) is_now,
      )

-- ---- the rights that an opening of two locks answers
module _ {V : Type 0} (z : TableId) (xs : List V) (two : length xs ≡ 2) where
  pub fresh_calm : (t : ℕ) (p : PassShown (LockPassView V)) → p ≡ pass_at z xs t → IsPass z t p × IsCalm p.own
      × (p.own.holds ≡ NotHeld ∷ NotHeld ∷ [])
  fresh_calm t p e = subst (λ y. IsPass z t y × IsCalm y.own × (y.own.holds ≡ NotHeld ∷ NotHeld ∷ [])) (sym e) (
    (refl, refl, length-replicate (length xs) NotHeld ∙ two, length-replicate (length xs) Out ∙ two, two),
    (refl, refl),
    ap (λ k. replicate k NotHeld) two,
  )

  fresh_root_is : (l : ℕ) (q : RootShown LockRootView) → q ≡ root_at z l → IsRoot z l [] q
  fresh_root_is l q e = subst (IsRoot z l []) (sym e) (refl, refl, refl, refl)

  -- of both roots, the last of which was taken first
  pub fresh_roots : (m : ℕ) → m ≡ 2 → (all one none : List (RootShown LockRootView)) (second first : RootShown LockRootView)
      → length all ≡ 2 → ((l : ℕ) → l < m → slice_get all l ≡ Some (root_at z l))
      → all ≡ one ++ second ∷ [] → one ≡ none ++ first ∷ []
      → IsRoot z 0 [] first × IsRoot z 1 [] second
  fresh_roots m is all one none second first len each a b =
      two_taken (root_at z) (λ l. IsRoot z l []) fresh_root_is all one none second first a b (len, λ l near. each l (omega (arith, near, is)))
