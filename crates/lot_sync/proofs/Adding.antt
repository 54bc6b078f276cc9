-- How a pass is seen after a call, but for the accesses that were made with it; and which of these the call added.
use Rattle.std.proofs.Common.{◌≡◌, ℕ, Bool, true, false, List, ◌++◌, Option, Some, None, inl, inr, refl, sym, ap, subst, ◌∙◌}
use Rattle.std.proofs.Common.{append_assoc}
use Rattle.lot_rights.specs.declared.views.Access.{Access}
use Rattle.lot_scheme.specs.Standing.{LotStanding}
use Rattle.lot_locks.specs.declared.released.Released.TheVariants.{Quiet}
use Rattle.lot_locks.specs.Released.{decision, FreeTrace}
use Rattle.lot_sync.specs.Lot.{PassView, ◌≈◌}
use Rattle.lot_sync.specs.Traces.{Adds, Then, UnparkedTrace}
use Rattle.lot_sync.specs.Passes.{pass_view_of}

module _ {V : Type 0} where
  -- what callers see of a pass that stands so
  pub alike_at : (out v : PassView V) (q : LotStanding V) → out ≡ pass_view_of q → pass_view_of q ≈ v → out ≈ v
  alike_at out v q is alike = subst (λ (o : PassView V). o ≈ v) (sym is) alike

  -- of a call that began with a pass that stood like p, and ended with one that stands like q
  pub adds_at : (trace : ℕ → List Access → Type 0) (before after : PassView V) (p q : LotStanding V) (did : List Access)
      → before ≡ pass_view_of p → after ≡ pass_view_of q
      → q.did ≡ p.did ++ did → trace p.thread did → Adds before.made (trace before.thread) after.made
  adds_at trace before after p q did was is more told = (
    did,
    ap (λ (v : PassView V). v.made) is ∙ (more ∙ ap (λ (v : PassView V). v.made ++ did) (sym was)),
    subst (λ (v : PassView V). trace v.thread did) (sym was) told,
  )

-- what two calls add, one after the other
pub adds_then : (before : List Access) {mid after : List Access} {first second : List Access → Type 0} → Adds before first mid
    → Adds mid second after → Adds before (Then first second) after
adds_then before (front, mid_is, one) (back, after_is, other) = (
  front ++ back,
  after_is ∙ (ap (λ ds. ds ++ back) mid_is ∙ append_assoc before front back),
  (front, back, one, other, refl),
)

-- no decision under a bucket's lock is that nobody was parked
undecided : (first : Option ℕ) (fair : Bool) → Quiet ≡ decision first fair → ⊥
undecided None fair e = absurd cc
undecided (Some t) true e = absurd cc
undecided (Some t) false e = absurd cc

-- so a lock that was let go where nobody was parked was let go by the first exchange
pub quiet_trace : (t l : ℕ) (acts : List Access) → FreeTrace t l Quiet acts → UnparkedTrace t l true acts
quiet_trace t l acts (inl (quiet, is)) = is
quiet_trace t l acts (inr (more, rest, (first, fair, decided, says, trace), is)) = absurd (undecided first fair decided)
