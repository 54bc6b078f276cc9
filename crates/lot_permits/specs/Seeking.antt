-- How a pass stands whose thread seeks a permit of k: p before it began, q now. The keys of the semaphores begin at
-- first_sem.
use Rattle.std.specs.Prelude.{◌≡◌, ◌≢◌, ℕ, ◌≤◌, ◌⊎◌, false, List}
use Rattle.lot_events.specs.declared.events.Event.TheVariants.{SemMark}
use Rattle.lot_events.specs.declared.events.Seen.TheVariants.{Done}
use Rattle.lot_rights.specs.declared.views.Access.{Access}
use Rattle.lot_rights.specs.declared.views.Access.TheVariants.{Makes, Finds}
use Rattle.lot_whole.specs.Standing.{MayWantPermit}
use Rattle.lot_seeking.specs.declared.seeking.Seeking.{Seeking}
use Rattle.lot_seeking.specs.Seeking.{IsAwake, IsWanting, SeeksSo}
use Rattle.lot_scheme.specs.Standing.{LotStanding, EndsWith, adding, seeking, queued, one_permit_more}
use Rattle.lot_scheme.specs.SemCalls.{ParksPermit}
use Rattle.lot_scheme.specs.Traces.{IsPermitSeek, GetPermitTrace, BusyTrace}

module _ {V : Type 0} where
  -- it sought a permit of k, and got it
  pub record GetsPermit (p : LotStanding V) (k : ℕ) (q : LotStanding V) : Type 0 where
    pub did : List Access
    pub got : GetPermitTrace p.thread k did
    pub is : q ≡ adding (one_permit_more p k) did

  -- at last it marked the semaphore as parked
  abbrev pub HasMarked : LotStanding V → ℕ → LotStanding V → Type 0
  HasMarked p k q = EndsWith (λ a. a ≡ Makes (SemMark p.thread k) Done) p q

  -- an exchange found another word than it was to change: at last that of a mark, which is to change 0; or that of a
  -- try to take
  abbrev pub FindsAnother : LotStanding V → ℕ → LotStanding V → Type 0
  FindsAnother p k q = EndsWith (λ a. (word : ℕ) × (word ≢ 0) × (a ≡ Finds p.thread k word)) p q
      ⊎ ((did : List Access) × BusyTrace p.thread k did × (q ≡ adding p did))

  -- it looked once more, and was not queued, since a permit was left or the semaphore not marked
  abbrev pub IsTurnedBack : LotStanding V → ℕ → LotStanding V → Type 0
  IsTurnedBack p k q = ParksPermit p k false q

-- where above is the order of keys
module _ {V : Type 0} (above : ℕ → ℕ → Type 0) where
  -- it may seek a permit of k
  abbrev pub MaySeekOf : ℕ → LotStanding V → ℕ → Type 0
  MaySeekOf first_sem p k = (first_sem ≤ k) × MayWantPermit above p.own k

  -- it seeks a permit, and is in no line
  abbrev pub IsSeekingFor : ℕ → LotStanding V → ℕ → LotStanding V → Type 0
  IsSeekingFor first_sem = IsWanting (λ (p : LotStanding V). p.thread) adding seeking (MaySeekOf first_sem) IsPermitSeek

  -- it is in no line, and seeks a permit or stands as before
  abbrev pub IsAwakeFor : ℕ → LotStanding V → ℕ → LotStanding V → Type 0
  IsAwakeFor first_sem = IsAwake (λ (p : LotStanding V). p.thread) adding seeking (MaySeekOf first_sem) IsPermitSeek

  -- it seeks a permit, and is queued in the semaphore's line
  abbrev pub IsAsleepFor : ℕ → LotStanding V → ℕ → LotStanding V → Type 0
  IsAsleepFor first_sem = IsWanting (λ (p : LotStanding V). p.thread) adding queued (MaySeekOf first_sem) IsPermitSeek

  -- by how far it is
  abbrev pub Seeks : ℕ → LotStanding V → ℕ → Seeking → LotStanding V → Type 0
  Seeks first_sem = SeeksSo (λ (p : LotStanding V). p.thread) adding seeking (MaySeekOf first_sem) IsPermitSeek GetsPermit
