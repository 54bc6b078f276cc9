-- How releases end: by the thread that is taken from the line, if any; and which accesses one makes.
use Rattle.std.specs.Prelude.{◌≡◌, ℕ, ◌≤◌, ◌++◌, Bool, false, List, [], ◌∷◌, Option, Some, None}
use Rattle.lot_events.specs.declared.events.Event.TheVariants.{SemPass as Passes, SemClear}
use Rattle.lot_events.specs.declared.events.Seen.TheVariants.{Done, Sleeper}
use Rattle.lot_rights.specs.declared.views.Access.{Access}
use Rattle.lot_rights.specs.declared.views.Access.TheVariants.{Makes}
use Rattle.lot_whole.specs.Standing.{MayGive}
use Rattle.lot_scheme.specs.Standing.{LotStanding, adding, one_permit_less}
use Rattle.lot_scheme.specs.Traces.{FreedTrace, UnfreedTrace}
use Rattle.lot_permits.specs.declared.permit.Freed.{Freed}
use Rattle.lot_permits.specs.declared.permit.Freed.TheVariants.{Quiet, Woke, Nobody}

-- the answer, by the first of the line
abbrev pub freed_by : Option ℕ → Freed
freed_by None = Nobody
freed_by (Some thread) = Woke

-- ---- traces: t gives a permit of k back, of which this becomes
-- with the bucket locked: it stays marked as parked where more may wait; where nobody is in the line, the parked bit is
-- cleared then
abbrev pub PassedTrace : ℕ → ℕ → Bool → Freed → List Access → Type 0
PassedTrace t k more Quiet acts = ⊥
PassedTrace t k more Woke acts = (first : ℕ) × (acts ≡ Makes (Passes t k more) (Sleeper (Some first)) ∷ [])
PassedTrace t k more Nobody acts =
    (more ≡ false) × (acts ≡ Makes (Passes t k more) (Sleeper None) ∷ Makes (SemClear t k) Done ∷ [])

-- the whole release: at once, or first a try to free it, in vain, and then with the bucket locked
abbrev pub GivenTrace : ℕ → ℕ → Freed → List Access → Type 0
GivenTrace t k Quiet acts = FreedTrace t k acts
GivenTrace t k became acts =
    (more : Bool) × (tried rest : List Access) × UnfreedTrace t k tried × PassedTrace t k more became rest × (acts ≡ tried ++ rest)

-- ---- how a pass stands: p before, and q when a permit of k was given back
module _ {V : Type 0} where
  -- it has a permit of k, and may give it back; the keys of the semaphores begin at first_sem
  abbrev pub MayGivePermit : ℕ → LotStanding V → ℕ → Type 0
  MayGivePermit first_sem p k = (first_sem ≤ k) × MayGive p.own k

  -- the semaphore stays marked as parked where more may wait
  pub record PassesPermit (p : LotStanding V) (k : ℕ) (more : Bool) (became : Freed) (q : LotStanding V) : Type 0 where
    pub did : List Access
    pub passed : PassedTrace p.thread k more became did
    pub is : q ≡ adding (one_permit_less p k) did

  pub record GivesPermit (p : LotStanding V) (k : ℕ) (became : Freed) (q : LotStanding V) : Type 0 where
    pub did : List Access
    pub given : GivenTrace p.thread k became did
    pub is : q ≡ adding (one_permit_less p k) did
