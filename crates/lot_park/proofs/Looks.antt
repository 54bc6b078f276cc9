-- What a sleeper's looks leave as it was, for whoever has a scheme.
use Rattle.std.proofs.Common.{ℕ, zero, suc, Option, Some, None, sym, subst}
use Rattle.lot_park.specs.declared.lot.Parked.{Parked}
use Rattle.lot_park.specs.declared.lot.Parked.TheVariants.{Invalid, Woken}
use Rattle.lot_park.specs.Parking.{LooksInVain, Awaited, Ends}

module _ {P : Type 0} (looked : P → Option ℕ → P → Type 0) (Keeps : P → P → Type 0) (starts : (p : P) → Keeps p p)
    (goes_on : (p m q : P) → Keeps p m → looked m None q → Keeps p q) where
  -- what one look in vain keeps, all of them keep
  pub looks_keep : (n : ℕ) (p q : P) → LooksInVain looked n p q → Keeps p q
  looks_keep zero p q vain = subst (λ (m : P). Keeps p m) (sym vain) (starts p)
  looks_keep (suc n) p q vain = goes_on p vain.0 q (looks_keep n p vain.0 vain.1) vain.2

  -- and the letter was found by a pass that they have kept
  pub awaited_keeps : (p : P) (token : ℕ) (q : P) → Awaited looked p token q → (m : P) × Keeps p m × looked m (Some token) q
  awaited_keeps p token q a = (a.last, looks_keep a.looks p a.last a.in_vain, a.found)

-- how a parking ended, where more is known of a waking
pub ends_on : (A : Type 0) (B C : ℕ → Type 0) (parked : Parked) → ((token : ℕ) → B token → C token) → Ends parked A B → Ends parked A C
ends_on A B C Invalid f e = e
ends_on A B C (Woken token) f e = f token.0 e
