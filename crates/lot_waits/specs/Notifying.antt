-- What a notification makes of how a pass stands, and of the condition's line. c is the condition's key.
use Rattle.std.specs.Prelude.{◌≡◌, ℕ, ◌<◌, ◌≤◌, ◌⊎◌, Bool, true, false, List, [], ◌∷◌, take, drop, Option, Some, None}
use Rattle.lot_bucket.specs.KeyLine.{KeyLine}
use Rattle.lot_events.specs.declared.events.Event.TheVariants.{Look, Call, Sweep}
use Rattle.lot_events.specs.declared.events.Seen.TheVariants.{Bool as Saw, Count}
use Rattle.lot_park.specs.Parking.{debts}
use Rattle.lot_rights.specs.declared.views.Access.{Access}
use Rattle.lot_rights.specs.declared.views.Access.TheVariants.{Makes}
use Rattle.lot_whole.specs.Standing.{IsIdle, MaySweep}
use Rattle.lot_scheme.specs.Standing.{LotStanding, adding, called_more as stand_called_more, swept}
use Rattle.lot_scheme.specs.Traces.{trace_of_all, trace_of_nobody}
use Rattle.lot_waits.specs.Counts.{counts_in, called_more as counts_called_more}

-- the numbers of the conditions are those from `locks` on and below `first_sem`
abbrev pub IsCondKey : ℕ → ℕ → ℕ → Type 0
IsCondKey locks first_sem c = (locks ≤ c) × (c < first_sem)

-- how many threads were taken, of one at most
abbrev pub one_of : Option ℕ → ℕ
one_of None = 0
one_of (Some thread) = 1

abbrev pub one_if : Bool → ℕ
one_if true = 1
one_if false = 0

-- ---- traces
-- A notification of n threads, after a look that found the flag set; and how many it took. It leaves the flag set only
-- where it took somebody.
abbrev pub CallTrace : ℕ → ℕ → ℕ → ℕ → List Access → Type 0
CallTrace t c n taken acts =
    (more : Bool) × (more ≡ true → 0 < taken)
    × (acts ≡ Makes (Look t c) (Saw true) ∷ Makes (Call t c n more) (Count taken) ∷ [])

-- ---- the line
-- of the key's line the first n were taken, and each is owed a letter
pub record Dequeues {R : Type 0} (view : R → KeyLine) (n : ℕ) (root root_now : R) : Type 0 where
  pub named : (view root_now).key ≡ (view root).key
  pub lined : (view root_now).line ≡ drop n (view root).line
  pub owing : (view root_now).owes ≡ debts (take n (view root).line)

-- all of the key's line were taken, and each is owed a letter
pub record DequeuesAll {R : Type 0} (view : R → KeyLine) (root root_now : R) : Type 0 where
  pub named : (view root_now).key ≡ (view root).key
  pub lined : (view root_now).line ≡ []
  pub owing : (view root_now).owes ≡ debts (view root).line

module _ {V : Type 0} where
  -- ---- while the condition's bucket is locked
  abbrev pub MayCall : ℕ → ℕ → LotStanding V → ℕ → Type 0
  MayCall locks first_sem p c = IsCondKey locks first_sem c × IsIdle p.own

  -- so many were taken from c's line, of n that were asked for; its flag stays set where more may wait
  abbrev pub Calls : LotStanding V → ℕ → ℕ → ℕ → Bool → LotStanding V → Type 0
  Calls p c n taken more q = q ≡ adding (stand_called_more p c taken) (Makes (Call p.thread c n more) (Count taken) ∷ [])

  -- it has lowered c's flag, and may take all of c's line
  abbrev pub MayTakeAll : ℕ → ℕ → LotStanding V → ℕ → Type 0
  MayTakeAll locks first_sem p c = IsCondKey locks first_sem c × MaySweep p.own c

  -- all of c's line were taken, so many
  abbrev pub Sweeps : LotStanding V → ℕ → ℕ → LotStanding V → Type 0
  Sweeps p c taken q = q ≡ adding (swept p c taken) (Makes (Sweep p.thread c) (Count taken) ∷ [])

  -- ---- whole notifications
  -- the flag was clear, and nobody was taken
  abbrev pub FindsNobody : LotStanding V → ℕ → ℕ → LotStanding V → Type 0
  FindsNobody p c taken q = (taken ≡ 0) × (q ≡ adding p (trace_of_nobody p.thread c))

  -- so many were taken from c's line, of n that were asked for
  abbrev pub Notifies : LotStanding V → ℕ → ℕ → ℕ → LotStanding V → Type 0
  Notifies p c n taken q =
      FindsNobody p c taken q
      ⊎ ((did : List Access) × CallTrace p.thread c n taken did × (q ≡ adding (stand_called_more p c taken) did))

  -- all of c's line were taken, so many
  abbrev pub NotifiesAll : LotStanding V → ℕ → ℕ → LotStanding V → Type 0
  NotifiesAll p c taken q =
      FindsNobody p c taken q ⊎ (q ≡ adding (stand_called_more p c taken) (trace_of_all p.thread c taken))

  -- it is idle still, and has counted so many more of c's line
  pub record HasTaken (p : LotStanding V) (c taken : ℕ) (q : LotStanding V) : Type 0 where
    pub idle : IsIdle q.own
    pub counts : counts_in q ≡ counts_called_more (counts_in p) c taken
