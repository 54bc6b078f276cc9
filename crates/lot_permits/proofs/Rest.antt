-- How a pass stands between two calls: it is idle.
use Rattle.std.proofs.Common.{◌≡◌, ℕ, Bool, List, ◌++◌, refl, sym, subst, ◌∙◌}
use Rattle.lot_rights.specs.declared.views.Access.{Access}
use Rattle.lot_sems.specs.Calls.{one_permit_more as sem_one_permit_more, one_permit_less as sem_one_permit_less}
use Rattle.lot_whole.specs.declared.views.LotPassView.{LotPassView}
use Rattle.lot_whole.specs.declared.views.Stand.TheVariants.{Idle}
use Rattle.lot_whole.specs.Family.{lock, cond, sem}
use Rattle.lot_whole.specs.Standing.{IsUp, IsIdle}
use Rattle.lot_scheme.specs.Standing.{LotStanding, adding, one_permit_more as stand_one_permit_more}
use Rattle.lot_scheme.specs.Standing.{one_permit_less as stand_one_permit_less}
use Rattle.lot_scheme.specs.Traces.{UnfreedTrace}
use Rattle.lot_permits.specs.declared.permit.Freed.{Freed}
use Rattle.lot_permits.specs.declared.permit.Freed.TheVariants.{Quiet, Woke, Nobody}
use Rattle.lot_permits.specs.Freed.{GivesPermit, PassesPermit, GivenTrace, PassedTrace}
use Rattle.lot_permits.specs.Seeking.{GetsPermit}
use Rattle.lot_permits.proofs.Adding.{adding_on}

module _ {V : Type 0} where
  -- ---- idle
  got_up : (p : LotPassView V) (k : ℕ) → IsUp p → IsUp (record p { sems = sem_one_permit_more p.sems k; stand = Idle })
  got_up p k up lock = up lock
  got_up p k up cond = up cond
  got_up p k up sem = up sem

  gave_up : (p : LotPassView V) (k : ℕ) → IsUp p → IsUp (record p { sems = sem_one_permit_less p.sems k })
  gave_up p k up lock = up lock
  gave_up p k up cond = up cond
  gave_up p k up sem = up sem

  pub idle_getting : (p : LotStanding V) (k : ℕ) → IsIdle p.own → IsIdle (stand_one_permit_more p k).own
  idle_getting p k idle =
      (record { up = got_up p.own k idle.0.up; aim = idle.0.aim; sweeps = idle.0.sweeps; seeks = refl }, refl)

  pub idle_giving : (p : LotStanding V) (k : ℕ) → IsIdle p.own → IsIdle (stand_one_permit_less p k).own
  idle_giving p k idle =
      (record { up = gave_up p.own k idle.0.up; aim = idle.0.aim; sweeps = idle.0.sweeps; seeks = idle.0.seeks }, idle.1)

  pub idle_got : (p q : LotStanding V) (k : ℕ) → IsIdle p.own → GetsPermit p k q → IsIdle q.own
  idle_got p q k idle gets = subst (λ (r : LotStanding V). IsIdle r.own) (sym gets.is) (idle_getting p k idle)

  pub idle_given : (p q : LotStanding V) (k : ℕ) (became : Freed) → IsIdle p.own → GivesPermit p k became q → IsIdle q.own
  idle_given p q k became idle gives = subst (λ (r : LotStanding V). IsIdle r.own) (sym gives.is) (idle_giving p k idle)

-- ---- a release that was tried in vain at first
given_after : (t k : ℕ) (more : Bool) (became : Freed) (tried rest : List Access) → UnfreedTrace t k tried
    → PassedTrace t k more became rest
    → GivenTrace t k became (tried ++ rest)
given_after t k more Quiet tried rest miss word = absurd word
given_after t k more Woke tried rest miss word = (more, tried, rest, miss, word, refl)
given_after t k more Nobody tried rest miss word = (more, tried, rest, miss, word, refl)

module _ {V : Type 0} where
  -- what is made of the pass then is made of it as it stood before
  gives_at : (p q : LotStanding V) (k : ℕ) (did : List Access) → UnfreedTrace p.thread k did → (more : Bool) (became : Freed)
      → PassesPermit (adding p did) k more became q → GivesPermit p k became q
  gives_at p q k did miss more became s = record {
    did = did ++ s.did;
    given = given_after p.thread k more became did s.did miss s.passed;
    is = s.is ∙ adding_on (stand_one_permit_less p k) did s.did;
  }

  pub gives_after : (p m q : LotStanding V) (k : ℕ) (did : List Access) → UnfreedTrace p.thread k did → m ≡ adding p did → (more : Bool)
      (became : Freed) → PassesPermit m k more became q → GivesPermit p k became q
  gives_after p m q k did miss is more became s =
      gives_at p q k did miss more became (subst (λ (r : LotStanding V). PassesPermit r k more became q) is s)
