-- Who gets a lock, or a letter that hands it over, owns it.
use Rattle.std.proofs.Common.{◌≡◌, ℕ, Bool, true, sym, subst, ◌∙◌, MatchBool, MatchOption, Option, Some}
use Rattle.lot_rights.specs.declared.views.Access.{Access}
use Rattle.lot_rights.specs.Shown.{PassShown}
use Rattle.lot_rights.specs.Steps.{Notes}
use Rattle.lot_words.specs.declared.views.LockPassView.{LockPassView}
use Rattle.lot_words.specs.CallersRule.{CallersRule}
use Rattle.lot_words.specs.Values.{FoundOk, Owns}
use Rattle.lot_words.specs.Calls.{owning, wanting, woken, GetsBy, FoundNone, Collected}

module _ {V Part : Type 0} (rule : CallersRule V Part)
    (law : (l t : ℕ) (p : LockPassView V) (x : V) → FoundOk rule l t p x → Owns (owning p l x) l x × Owns (woken (owning p l x)) l x)
    (p q : PassShown (LockPassView V)) (l : ℕ) where
  pub taken : (b : Bool) (a c : Access) → MatchBool b (GetsBy rule p l a q) (Notes p (wanting p.own l) c q) → b ≡ true
      → (x : V) × Owns q.own l x
  taken b a c event is =
      let got : GetsBy rule p l a q = subst (λ z. MatchBool z (GetsBy rule p l a q) (Notes p (wanting p.own l) c q)) is event in
      (got.0, subst (λ (z : PassShown (LockPassView V)). Owns z.own l got.0) (sym got.2.1) (law l p.thread p.own got.0 got.1).0)

  pub handed : (o : Option ℕ) → MatchOption o (FoundNone p q) (λ token. Collected rule p token q) → p.own.aim ≡ Some l → o ≡ Some 1
      → (x : V) × Owns q.own l x
  handed o letter aim one =
      let h : Collected rule p 1 q = subst (λ z. MatchOption z (FoundNone p q) (λ token. Collected rule p token q)) one letter in
      let k : ℕ = h.2.0 in
      let same : k ≡ l = (let e : Some k ≡ Some l = sym h.2.1 ∙ aim in cc) in
      let x : V = h.2.2.0 in (
        x,
        subst (λ n. Owns q.own n x) same
            (subst (λ (z : PassShown (LockPassView V)). Owns z.own k x) (sym h.2.2.2.1) (law k p.thread p.own x h.2.2.1).1),
      )
