-- How a pass stands in the schedules of a lot: it is queued nowhere, and has no lock, seeks one, or has one. t is its
-- thread, l a lock.
use Rattle.std.specs.Prelude.{◌≡◌, ◌≢◌, ◌⊎◌, ℕ, List, Some, None}
use Rattle.lot_rights.specs.declared.views.Access.{Access}
use Rattle.lot_words.specs.World.{Holds}
use Rattle.lot_words.specs.Values.{IsIn}
use Rattle.lot_whole.specs.declared.views.LotPassView.{LotPassView}
use Rattle.lot_whole.specs.declared.views.Stand.TheVariants.{Idle}
use Rattle.lot_whole.specs.Standing.{IsUp}
use Rattle.lot_scheme.specs.Standing.{LotStanding, adding, setting_out}

module _ {V : Type 0} where
  -- it is of the thread t; and by what it knows, it is queued nowhere and stands at no condition, sweeps none, and
  -- seeks no permit
  pub record IsThere (t of_thread : ℕ) (own : LotPassView V) : Type 0 where
    pub thread : of_thread ≡ t
    pub up : IsUp own
    pub out : own.conds.out ≡ None
    pub sweeps : own.conds.sweeps ≡ None
    pub seeks : own.sems.seeks ≡ None
    pub stand : own.stand ≡ Idle

  abbrev pub HasNone : LotStanding V → Type 0
  HasNone p = (l : ℕ) → ¬ Holds p.own.locks l

  -- it has no lock, and wants none
  pub record IsCalm (t : ℕ) (p : LotStanding V) : Type 0 where
    pub there : IsThere t p.thread p.own
    pub aim : p.own.locks.aim ≡ None
    pub none : HasNone p

  -- it has no lock, and wants l
  pub record Wants (t l : ℕ) (p : LotStanding V) : Type 0 where
    pub there : IsThere t p.thread p.own
    pub aim : p.own.locks.aim ≡ Some l
    pub none : HasNone p

  -- it has no lock, and wants none, or l
  abbrev pub IsFor : ℕ → ℕ → LotStanding V → Type 0
  IsFor t l p = IsCalm t p ⊎ Wants t l p

  -- it has l alone, whose value lies in its slot, and wants none
  pub record HasIt (t l : ℕ) (p : LotStanding V) : Type 0 where
    pub there : IsThere t p.thread p.own
    pub aim : p.own.locks.aim ≡ None
    pub holds : Holds p.own.locks l
    pub lies : (y : V) × IsIn p.own.locks l y
    pub others : (k : ℕ) → k ≢ l → ¬ Holds p.own.locks k

  -- it has cleared the flag of c, and has to sweep it
  abbrev pub HasSetOut : LotStanding V → ℕ → LotStanding V → Type 0
  HasSetOut p c q = (did : List Access) × (q ≡ adding (setting_out p c) did)
