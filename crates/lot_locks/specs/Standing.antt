-- How a pass stands between two accesses of a lock's word, and what the calls of a lock make of it.
use Rattle.std.specs.Prelude.{◌≡◌, ◌≢◌, ℕ, ◌<◌, ◌++◌, Bool, true, false, List, [], ◌∷◌, Some}
use Rattle.std.specs.List.{count_by}
use Rattle.lot_events.specs.declared.events.Event.TheVariants.{Free, Mark, Park}
use Rattle.lot_events.specs.declared.events.Seen.TheVariants.{Bool as Saw, Done}
use Rattle.lot_rights.specs.declared.views.Access.{Access}
use Rattle.lot_rights.specs.declared.views.Access.TheVariants.{Makes, Finds, Collects}
use Rattle.lot_words.specs.CallersRule.{CallersRule}
use Rattle.lot_words.specs.World.{Holds, HoldsParked}
use Rattle.lot_words.specs.Values.{IsIn, FoundOk}
use Rattle.lot_whole.specs.Standing.{MayWant, MayLetGo}
use Rattle.lot_seeking.specs.declared.seeking.Seeking.{Seeking}
use Rattle.lot_seeking.specs.Seeking.{IsAwake, IsWanting, SeeksSo}
use Rattle.lot_scheme.specs.Standing.{LotStanding, EndsWith, adding, wanting, lined, owning, finding_parked, letting_go}
use Rattle.lot_scheme.specs.Traces.{IsSeek, GetTrace}
use Rattle.lot_locks.specs.declared.released.Released.{Released}
use Rattle.lot_locks.specs.Released.{FreeTrace, Passed}

-- a letter was found: so the thread had been queued in a line, and was taken from it
abbrev pub is_letter : Access → Bool
is_letter (Collects t (Some token)) = true
is_letter _ = false

-- how often these accesses found one
abbrev pub letters_in : List Access → ℕ
letters_in acts = count_by is_letter acts

module _ {V : Type 0} where
  -- ---- what a release asks for
  -- the pass owns the lock, whose value lies in its slot, and may let it go
  pub record MayFree (p : LotStanding V) (l : ℕ) : Type 0 where
    pub may : MayLetGo p.own l
    pub holds : Holds p.own.locks l
    pub lies : (y : V) × IsIn p.own.locks l y

  -- and it found the lock parked, which is one of n
  pub record MayPass (n : ℕ) (p : LotStanding V) (l : ℕ) : Type 0 where
    pub below : l < n
    pub may : MayLetGo p.own l
    pub holds : HoldsParked p.own.locks l
    pub lies : (y : V) × IsIn p.own.locks l y

  -- at last it found this word in the lock, and did not change it
  abbrev pub HasFound : LotStanding V → ℕ → ℕ → Type 0
  HasFound now l word = (front : List Access) × (now.did ≡ front ++ Finds now.thread l word ∷ [])

  -- at last it marked the lock as parked; or it found another word than that of a lock that is held and not marked
  abbrev pub HasMarked : LotStanding V → ℕ → LotStanding V → Type 0
  HasMarked before l now = EndsWith (λ a. a ≡ Makes (Mark before.thread l) Done) before now

  abbrev pub FindsAnother : LotStanding V → ℕ → LotStanding V → Type 0
  FindsAnother before l now = EndsWith (λ a. (word : ℕ) × (word ≢ 1) × (a ≡ Finds before.thread l word)) before now

  -- it looked once more, and was not queued, since the lock was free or not marked
  abbrev pub IsTurnedBack : LotStanding V → ℕ → LotStanding V → Type 0
  IsTurnedBack before l now = now ≡ adding before (Makes (Park before.thread l) (Saw false) ∷ [])

  -- ---- releases
  -- the lock was found parked, and is owned still
  abbrev pub IsFoundParked : LotStanding V → ℕ → LotStanding V → Type 0
  IsFoundParked before l now = now ≡ adding (finding_parked before l) (Makes (Free before.thread l) (Saw false) ∷ [])

  -- the lock was let go by such a trace, and the value that lay in its slot was left there
  pub record GoesBy (trace : List Access → Type 0) (before : LotStanding V) (l : ℕ) (after : LotStanding V) : Type 0 where
    pub value : V
    pub lay : IsIn before.own.locks l value
    pub did : List Access
    pub freed : trace did
    pub is : after ≡ adding (letting_go before l value) did

  -- the lock was let go, of which this became: by the first exchange, or after it was found parked
  abbrev pub LetsGo : LotStanding V → ℕ → Released → LotStanding V → Type 0
  LetsGo before l became after = GoesBy (FreeTrace before.thread l became) before l after

  -- the lock, which was found parked before, was let go, of which this became; it stays marked as parked where more is
  -- true
  abbrev pub PassesOn : LotStanding V → ℕ → Bool → Released → LotStanding V → Type 0
  PassesOn before l more became after = GoesBy (Passed before.thread l more became) before l after

  -- ---- tries
  -- the lock was not got, by such a trace, and the pass stands as before
  abbrev pub MissesBy : (List Access → Type 0) → LotStanding V → LotStanding V → Type 0
  MissesBy trace before after = (did : List Access) × trace did × (after ≡ adding before did)

-- where above is the order of keys
module _ {V : Type 0} (above : ℕ → ℕ → Type 0) where
  -- ---- seeking, from how the pass stood before, by accesses that get nothing
  -- it may seek the lock, which is one of n
  abbrev pub MaySeekOf : ℕ → LotStanding V → ℕ → Type 0
  MaySeekOf n before l = (l < n) × MayWant above before.own l

  -- it wants the lock, and is in no line
  abbrev pub IsTryingFor : ℕ → LotStanding V → ℕ → LotStanding V → Type 0
  IsTryingFor n = IsWanting (λ (p : LotStanding V). p.thread) adding wanting (MaySeekOf n) IsSeek

  -- it is in no line, and stands as before, or wants the lock by now
  abbrev pub IsAwakeFor : ℕ → LotStanding V → ℕ → LotStanding V → Type 0
  IsAwakeFor n = IsAwake (λ (p : LotStanding V). p.thread) adding wanting (MaySeekOf n) IsSeek

  -- it is queued in the line of the lock, which it wants
  abbrev pub IsAsleepFor : ℕ → LotStanding V → ℕ → LotStanding V → Type 0
  IsAsleepFor n = IsWanting (λ (p : LotStanding V). p.thread) adding lined (MaySeekOf n) IsSeek

module _ {V Part : Type 0} (rule : CallersRule V Part) where
  -- the lock was got by such a trace, with the value that was found there
  pub record GetsBy (trace : List Access → Type 0) (before : LotStanding V) (l : ℕ) (after : LotStanding V) : Type 0 where
    pub value : V
    pub found : FoundOk rule l before.thread before.own.locks value
    pub did : List Access
    pub got : trace did
    pub is : after ≡ adding (owning before l value) did

  -- the lock was sought, and got
  abbrev pub IsOwner : LotStanding V → ℕ → LotStanding V → Type 0
  IsOwner before l after = GetsBy (GetTrace before.thread l) before l after

  -- how far a thread is that seeks the lock, one of n, and that stood so before
  abbrev pub Seeks : ℕ → LotStanding V → ℕ → Seeking → LotStanding V → Type 0
  Seeks n = SeeksSo (λ (p : LotStanding V). p.thread) adding wanting (MaySeekOf rule.above n) IsSeek IsOwner
