-- What the calls on a semaphore's word make of how a pass stands. p is the pass before, q the pass after, and k the
-- semaphore's key.
use Rattle.std.specs.Prelude.{◌≡◌, ◌≢◌, ℕ, ◌<◌, Bool, true, false, List, [], ◌∷◌}
use Rattle.lot_core.specs.Rows.{row_from}
use Rattle.lot_events.specs.declared.events.Event.TheVariants.{SemTake, SemMark, SemPark}
use Rattle.lot_events.specs.declared.events.Seen.TheVariants.{Bool as Saw, Done}
use Rattle.lot_rights.specs.declared.views.Access.{Access}
use Rattle.lot_rights.specs.declared.views.Access.TheVariants.{Makes, Finds}
use Rattle.lot_sems.specs.declared.taking.Taken.{Taken}
use Rattle.lot_sems.specs.declared.taking.Taken.TheVariants.{Got, Empty, Busy}
use Rattle.lot_sems.specs.Calls.{parked_pass}
use Rattle.lot_scheme.specs.Standing.{LotStanding, adding, seeking, one_permit_more, one_permit_less}
use Rattle.lot_scheme.specs.Traces.{TookTrace, BusyTrace, FreedTrace, UnfreedTrace}

-- how many permits of k there are at the opening, where the keys of the semaphores begin at first_sem
abbrev pub opening_permits : ℕ → List ℕ → ℕ → ℕ
opening_permits first_sem permits = row_from 0 first_sem permits

module _ {V : Type 0} where
  -- ---- tries to take a permit
  abbrev pub TriesPermit : LotStanding V → ℕ → Taken → LotStanding V → Type 0
  TriesPermit p k Got q = (did : List Access) × TookTrace p.thread k did × (q ≡ adding (one_permit_more p k) did)
  TriesPermit p k Empty q = (word : ℕ) × (word < 2) × (q ≡ adding p (Finds p.thread k word ∷ []))
  TriesPermit p k Busy q = (did : List Access) × BusyTrace p.thread k did × (q ≡ adding p did)

  -- the same, where a thread that finds none seeks one
  abbrev pub TakesPermit : LotStanding V → ℕ → Taken → LotStanding V → Type 0
  TakesPermit p k Got q = (did : List Access) × TookTrace p.thread k did × (q ≡ adding (one_permit_more p k) did)
  TakesPermit p k Empty q = q ≡ adding (seeking p k) (Makes (SemTake p.thread k) (Saw false) ∷ [])
  TakesPermit p k Busy q = (did : List Access) × BusyTrace p.thread k did × (q ≡ adding p did)

  -- ---- lining up
  -- the semaphore was marked as parked, or its word was not 0
  abbrev pub MarksPermit : LotStanding V → ℕ → Bool → LotStanding V → Type 0
  MarksPermit p k true q = q ≡ adding p (Makes (SemMark p.thread k) Done ∷ [])
  MarksPermit p k false q = (word : ℕ) × (word ≢ 0) × (q ≡ adding p (Finds p.thread k word ∷ []))

  -- the pass after a validation, which queued the thread or did not
  abbrev pub lined_up : LotStanding V → Bool → LotStanding V
  lined_up p does = record p { own = record p.own { sems = parked_pass p.own.sems does } }

  abbrev pub ParksPermit : LotStanding V → ℕ → Bool → LotStanding V → Type 0
  ParksPermit p k does q = q ≡ adding (lined_up p does) (Makes (SemPark p.thread k) (Saw does) ∷ [])

  -- ---- a try to give a permit back at once, and whether it was
  abbrev pub FreesPermit : LotStanding V → ℕ → Bool → LotStanding V → Type 0
  FreesPermit p k true q = (did : List Access) × FreedTrace p.thread k did × (q ≡ adding (one_permit_less p k) did)
  FreesPermit p k false q = (did : List Access) × UnfreedTrace p.thread k did × (q ≡ adding p did)
