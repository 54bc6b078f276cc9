-- How a lot's pass stands: what its thread knows, and what it did with it; and what each call makes of that.
use Rattle.std.specs.Prelude.{◌≡◌, ℕ, ◌++◌, zero, suc, Bool, true, false, List, [], ◌∷◌, map, Option, Some, None}
use Rattle.lot_rights.specs.Shown.{PassShown}
use Rattle.lot_rights.specs.declared.views.Access.{Access}
use Rattle.lot_rights.specs.declared.views.Access.TheVariants.{Collects}
use Rattle.lot_rights.specs.declared.views.Entry.{Entry}
use Rattle.lot_words.specs.declared.views.Place.{Place}
use Rattle.lot_words.specs.CallersRule.{CallersRule}
use Rattle.lot_words.specs.Values.{FoundOk}
use Rattle.lot_words.specs.Calls.{owning as lock_owning, wanting as lock_wanting, sleeping, woken as lock_woken}
use Rattle.lot_words.specs.Calls.{letting_go as lock_letting_go, finding_parked as lock_finding_parked}
use Rattle.lot_conds.specs.Calls.{enlisted as cond_enlisted, called_more as cond_called_more, lowering, swept_pass}
use Rattle.lot_conds.specs.Calls.{one_wait_more as cond_one_wait_more}
use Rattle.lot_sems.specs.Calls.{seeking as sem_seeking, one_permit_more as sem_one_permit_more, one_permit_less as sem_one_permit_less}
use Rattle.lot_sems.specs.Calls.{woken as sem_woken, parked_pass as sem_parked}
use Rattle.lot_whole.specs.declared.views.LotPassView.{LotPassView}
use Rattle.lot_whole.specs.declared.views.Stand.TheVariants.{Idle, AtBed}
use Rattle.lot_whole.specs.Whole.{rises}
use Rattle.lot_whole.specs.Calls.{placed_in}

-- a pass: its thread, what it knows, and the accesses that were made with it, the oldest first, without their places in
-- the history
pub record LotStanding (V : Type 0) : Type 0 where
  pub thread : ℕ
  pub own : LotPassView V
  pub did : List Access

module _ {V : Type 0} where
  abbrev pub standing : PassShown (LotPassView V) → LotStanding V
  standing p = record { thread = p.thread; own = p.own; did = map (λ (e : Entry). e.access) p.made }

  -- the pass, after these accesses more
  abbrev pub adding : LotStanding V → List Access → LotStanding V
  adding p acts = record p { did = p.did ++ acts }

  -- since it stood so before, the last access was such a one
  pub record EndsWith (such : Access → Type 0) (before now : LotStanding V) : Type 0 where
    pub front : List Access
    pub last : Access
    pub was : such last
    pub is : now.did ≡ before.did ++ (front ++ last ∷ [])

  -- ---- locks
  -- it wants the lock
  abbrev pub wanting : LotStanding V → ℕ → LotStanding V
  wanting p l = record p { own = record p.own { locks = lock_wanting p.own.locks l; stand = Idle } }

  -- it wants the lock, and is queued in its line
  abbrev pub lined : LotStanding V → ℕ → LotStanding V
  lined p l = record p { own = record p.own { locks = sleeping (lock_wanting p.own.locks l); stand = Idle } }

  -- it is queued in the line of the lock that it wants
  abbrev pub dozing : LotStanding V → LotStanding V
  dozing p = record p { own = record p.own { locks = sleeping p.own.locks } }

  -- it owns the lock, and found the value there
  abbrev pub owning : LotStanding V → ℕ → V → LotStanding V
  owning p l x = record p { own = record p.own { locks = lock_owning p.own.locks l x; stand = Idle } }

  -- it owns the lock still, which it found parked
  abbrev pub finding_parked : LotStanding V → ℕ → LotStanding V
  finding_parked p l = record p { own = record p.own { locks = lock_finding_parked p.own.locks l } }

  -- it has let the lock go, and left the value there
  abbrev pub letting_go : LotStanding V → ℕ → V → LotStanding V
  letting_go p l y = record p { own = record p.own { locks = lock_letting_go p.own.locks l y; stand = rises p.own.stand } }

  -- the value of the lock is at this place
  abbrev pub placing : LotStanding V → ℕ → Place V → LotStanding V
  placing p l place = record p { own = placed_in p.own l place }

  -- ---- conditions
  -- it is queued on c, at its bed with the lock l
  abbrev pub enlisted : LotStanding V → ℕ → ℕ → LotStanding V
  enlisted p c l = record p { own = record p.own { conds = cond_enlisted p.own.conds c; stand = AtBed c l } }

  -- one wait of its own on c more has ended
  abbrev pub one_wait_more : LotStanding V → ℕ → LotStanding V
  one_wait_more p c = record p { own = record p.own { conds = cond_one_wait_more p.own.conds c } }

  -- it has taken so many sleepers more from c's line
  abbrev pub called_more : LotStanding V → ℕ → ℕ → LotStanding V
  called_more p c n = record p { own = record p.own { conds = cond_called_more p.own.conds c n } }

  -- it has lowered c's flag, and has to sweep c
  abbrev pub setting_out : LotStanding V → ℕ → LotStanding V
  setting_out p c = record p { own = record p.own { conds = lowering p.own.conds c; stand = Idle } }

  -- it has swept c, and so taken all n sleepers of its line
  abbrev pub swept : LotStanding V → ℕ → ℕ → LotStanding V
  swept p c n = record p { own = record p.own { conds = swept_pass p.own.conds c n; stand = Idle } }

  -- ---- semaphores
  -- it seeks a permit of k
  abbrev pub seeking : LotStanding V → ℕ → LotStanding V
  seeking p k = record p { own = record p.own { sems = sem_seeking p.own.sems k; stand = Idle } }

  -- it seeks a permit of k, and is queued in its line
  abbrev pub queued : LotStanding V → ℕ → LotStanding V
  queued p k = record p { own = record p.own { sems = sem_parked (sem_seeking p.own.sems k) true; stand = Idle } }

  -- it has got a permit of k
  abbrev pub one_permit_more : LotStanding V → ℕ → LotStanding V
  one_permit_more p k = record p { own = record p.own { sems = sem_one_permit_more p.own.sems k; stand = Idle } }

  -- it has given a permit of k back
  abbrev pub one_permit_less : LotStanding V → ℕ → LotStanding V
  one_permit_less p k = record p { own = record p.own { sems = sem_one_permit_less p.own.sems k } }

-- ---- looks for a letter
module _ {V Part : Type 0} (rule : CallersRule V Part) where
  -- a lock's letter was collected: with token 0 the thread may try again, and with token 1 it has the lock that it
  -- wanted
  abbrev pub CollectsLock : LotStanding V → ℕ → LotStanding V → Type 0
  CollectsLock p zero q =
      q ≡ adding (record p { own = record p.own { locks = lock_woken p.own.locks } }) (Collects p.thread (Some 0) ∷ [])
  CollectsLock p (suc k) q =
      (k ≡ 0) × ((l : ℕ) × (p.own.locks.aim ≡ Some l) × ((x : V) × FoundOk rule l p.thread p.own.locks x
      × (q ≡ adding (record p { own = record p.own { locks = lock_woken (lock_owning p.own.locks l x) } })
      (Collects p.thread (Some 1) ∷ []))))

  -- a condition's or a semaphore's letter, whose tokens are all 0
  abbrev pub CollectsCond : LotStanding V → ℕ → LotStanding V → Type 0
  CollectsCond p token q =
      (token ≡ 0) × ((c : ℕ) × (p.own.conds.out ≡ Some c) × (q ≡ adding (one_wait_more p c) (Collects p.thread (Some token) ∷ [])))

  abbrev pub CollectsSem : LotStanding V → ℕ → LotStanding V → Type 0
  CollectsSem p token q =
      (token ≡ 0) × (p.own.sems.asleep ≡ true)
      × (q ≡ adding (record p { own = record p.own { sems = sem_woken p.own.sems } }) (Collects p.thread (Some token) ∷ []))

  -- a letter was collected: by where the thread is away, it is a lock's, a condition's or a semaphore's
  abbrev pub CollectsIn : LotStanding V → Bool → Option ℕ → ℕ → LotStanding V → Type 0
  CollectsIn p true out token q = CollectsLock p token q
  CollectsIn p false (Some c) token q = CollectsCond p token q
  CollectsIn p false None token q = CollectsSem p token q

  -- a look for a letter: where none lay, the pass stands as before, after one look more
  abbrev pub IsLooked : LotStanding V → Option ℕ → LotStanding V → Type 0
  IsLooked p None q = q ≡ adding p (Collects p.thread None ∷ [])
  IsLooked p (Some token) q = CollectsIn p p.own.locks.asleep p.own.conds.out token q
