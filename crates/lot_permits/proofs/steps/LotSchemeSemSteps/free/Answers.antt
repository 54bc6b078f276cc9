use Rattle.std.proofs.Common.{ℕ, Bool, true, false, MatchBool, sym, subst}
use Rattle.lot_scheme.specs.Standing.{LotStanding}
use Rattle.lot_scheme.specs.SemCalls.{FreesPermit}
use Rattle.lot_permits.specs.declared.permit.Freed.{Freed}
use Rattle.lot_permits.specs.declared.permit.Freed.TheVariants.{Quiet}
use Rattle.lot_permits.specs.Freed.{MayGivePermit, GivesPermit, PassesPermit}
use Rattle.lot_permits.proofs.Rest.{gives_after}
use Rattle.lot_permits.proofs.steps.LotSchemeSemSteps.free.Goals as goal

-- the permit was given back; or the thread still has it
freed : {V : Type 0} → (first_sem : ℕ) (p q : LotStanding V) (k : ℕ) (does : Bool) → MayGivePermit first_sem p k → FreesPermit p k does q
    → MatchBool does (GivesPermit p k Quiet q)
    (MayGivePermit first_sem q k × ((more : Bool) (became : Freed) (after : LotStanding V) → PassesPermit q k more became after
    → GivesPermit p k became after))
freed first_sem p q k true may (did, trace, is) = record { did = did; given = trace; is = is }
freed {V} first_sem p q k false may (did, trace, is) = (
  subst (λ (r : LotStanding V). MayGivePermit first_sem r k) (sym is) may,
  λ more became after s. gives_after p q after k did trace is more became s,
)

pub returns : goal.returns
returns g c =
    freed g.N.LotName.first_sem c.args.pass c.free_permit.result.0 c.args.key c.free_permit.result.1 c.requires.may c.free_permit.ensures
