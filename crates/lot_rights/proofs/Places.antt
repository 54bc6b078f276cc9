-- A step that is allowed at a word is allowed at the place where that word lies.
use Rattle.std.proofs.Common.{◌≡◌, ℕ, sym, subst}
use Rattle.lot_rights.specs.Rule.{Meaning}
use Rattle.lot_rights.specs.Shown.{PassShown, RootShown}
use Rattle.lot_rights.specs.Steps.{AllowsPass, AllowsBoth, AllowsRoot}

module _ {S P R : Type 0} (k : Meaning S P R) (i place : ℕ) (is : place ≡ i) where
  pub pass_at_place : (f : ℕ → ℕ) (p : PassShown P) (then : ℕ → PassShown P → Type 0)
      → AllowsPass k i f p then → AllowsPass k place f p then
  pass_at_place f p then a = subst (λ z. AllowsPass k z f p then) (sym is) a

  pub both_at_place : (f : ℕ → ℕ) (p : PassShown P) (q : RootShown R) (then : ℕ → PassShown P → RootShown R → Type 0)
      → AllowsBoth k i f p q then → AllowsBoth k place f p q then
  both_at_place f p q then a = subst (λ z. AllowsBoth k z f p q then) (sym is) a

  pub root_at_place : (f : ℕ → ℕ) (q : RootShown R) (then : ℕ → RootShown R → Type 0)
      → AllowsRoot k i f q then → AllowsRoot k place f q then
  root_at_place f q then a = subst (λ z. AllowsRoot k z f q then) (sym is) a

-- A call's step is allowed at the place that it found, if it is allowed at its word whatever the table's numbers and values
-- are, where these are as the call asks.
pub pass_at_word : {S P R Z : Type 0} (k : Z → Meaning S P R) {z shown : Z} → z ≡ shown → (Asks : Z → Type 0) → Asks shown
    → (i : ℕ) {place : ℕ} → place ≡ i → (f : ℕ → ℕ) (p : PassShown P) (then : ℕ → PassShown P → Type 0)
    → ((y : Z) → Asks y → AllowsPass (k y) i f p then) → AllowsPass (k z) place f p then
pass_at_word k {z} shown_is Asks asks i {place} is f p then allows =
    pass_at_place (k z) i place is f p then (allows z (subst Asks (sym shown_is) asks))
