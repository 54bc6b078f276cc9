-- What each kind of call does to the rights that it is handed.
use Rattle.std.specs.Prelude.{◌≡◌, ◌≢◌, ◌⊎◌, ◌%◌, ℕ, zero, suc, ◌<◌, Bool, length, true, false, Option, Some, None}
use Rattle.std.specs.List.{Contains}
use Rattle.lot_events.specs.declared.events.Event.TheVariants.{SemTake, SemFree}
use Rattle.lot_events.specs.declared.events.Event.{Event}
use Rattle.lot_events.specs.declared.events.Seen.TheVariants.{Bool as Saw}
use Rattle.lot_rights.specs.declared.views.Access.{Access}
use Rattle.lot_rights.specs.declared.views.Access.TheVariants.{Makes, Collects, Finds, Counts}
use Rattle.lot_rights.specs.History.{handed_in}
use Rattle.lot_rights.specs.Shown.{PassShown, RootShown}
use Rattle.lot_rights.specs.Steps.{Notes, RootNotes}
use Rattle.lot_words.specs.CallersRule.{CallersRule}
use Rattle.lot_words.specs.Values.{FoundOk}
use Rattle.lot_words.specs.declared.views.LockRootView.{LockRootView}
use Rattle.lot_conds.specs.declared.views.CondRootView.{CondRootView}
use Rattle.lot_sems.specs.declared.views.SemRootView.{SemRootView}
use Rattle.lot_words.specs.declared.views.Place.{Place}
use Rattle.lot_words.specs.Calls.{owning, placing, woken as lock_woken, paid_root as lock_paid}
use Rattle.lot_conds.specs.Calls.{one_wait_more, paid_root as cond_paid}
use Rattle.lot_sems.specs.declared.taking.Taken.{Taken}
use Rattle.lot_sems.specs.declared.taking.Taken.TheVariants.{Got, Empty, Busy}
use Rattle.lot_sems.specs.declared.views.SemPassView.{SemPassView}
use Rattle.lot_sems.specs.Calls.{paid_root as sem_paid, one_permit_more, one_permit_less, seeking}
use Rattle.lot_sems.specs.Calls.{IsAnyLeft, IsUnmarked, woken as sem_woken}
use Rattle.lot_whole.specs.declared.views.LotPassView.{LotPassView}
use Rattle.lot_whole.specs.declared.views.LotRootView.{LotRootView}
use Rattle.lot_whole.specs.declared.views.LotRootView.TheVariants.{Lock, Cond, Sem}
use Rattle.lot_whole.specs.Family.{Which, lock, cond, sem, PassIn, RootIn}
use Rattle.lot_whole.specs.Lot.{root_from, line_of_root}
use Rattle.lot_whole.specs.Lifts.{lot_own}
use Rattle.lot_whole.specs.Standing.{as_lock, as_cond, as_sem}

-- q is the pass p, which knows this of the kind j now and stands as the access has left it, with this one entry more
abbrev pub NotesIn : {V : Type 0} (j : Which) → PassShown (LotPassView V) → PassIn V j → Access → PassShown (LotPassView V) → Type 0
NotesIn j p own a q = Notes p (lot_own j p.own own a) a q

-- q is the pass p, which found this word of the key c and left it so
abbrev pub FindsOf : {V : Type 0} → PassShown (LotPassView V) → ℕ → ℕ → PassShown (LotPassView V) → Type 0
FindsOf p c word q = Notes p p.own (Finds p.thread c word) q

-- the pass has the value of the lock l at this place
abbrev pub placed_in : {V : Type 0} → LotPassView V → ℕ → Place V → LotPassView V
placed_in p l place = record p { locks = placing p.locks l place }

-- a root of a kind, as the kind sees it
abbrev pub lock_of : RootShown LotRootView → RootShown LockRootView
lock_of q = record { table = q.table; key = q.key; made = q.made; own = as_lock q.own }

abbrev pub cond_of : RootShown LotRootView → RootShown CondRootView
cond_of q = record { table = q.table; key = q.key; made = q.made; own = as_cond q.own }

abbrev pub sem_of : RootShown LotRootView → RootShown SemRootView
sem_of q = record { table = q.table; key = q.key; made = q.made; own = as_sem q.own }

-- q is the root p, of a key of the kind j, which knows this now; or which does after this one entry more
abbrev pub RootIs : (j : Which) → RootShown LotRootView → RootIn j → RootShown LotRootView → Type 0
RootIs j p own q = q ≡ record p { own = root_from j own }

abbrev pub RootNotesIn : (j : Which) → RootShown LotRootView → RootIn j → Access → RootShown LotRootView → Type 0
RootNotesIn j p own a q = RootNotes p (root_from j own) a q

-- the root owes the thread a letter with this token; one of a condition or of a semaphore has the token 0
abbrev pub OwesLetter : LotRootView → ℕ → ℕ → Type 0
OwesLetter (Lock q) t token = q.owes ≡ Some (t, token)
OwesLetter (Cond q) t token = Contains q.owes t × (token ≡ 0)
OwesLetter (Sem q) t token = (q.owes ≡ Some t) × (token ≡ 0)

-- what it knows when that letter was posted
abbrev pub paid : LotRootView → ℕ → LotRootView
paid (Lock q) t = Lock (lock_paid q)
paid (Cond q) t = Cond (cond_paid q t)
paid (Sem q) t = Sem (sem_paid q)

-- what a thread counts with a root in hand: of its key, how many were told that they were taken from the line, how many
-- of these were handed the lock, and how many are in the line
abbrev pub counting : ℕ → RootShown LotRootView → Access
counting t q = Counts t q.key (length q.made) (handed_in q.made) (length (line_of_root q.own))

-- q is the pass p after it found no letter
abbrev pub FoundNone : {V : Type 0} → PassShown (LotPassView V) → PassShown (LotPassView V) → Type 0
FoundNone p q = Notes p p.own (Collects p.thread None) q

module _ {V : Type 0} where
  -- ---- looks at the word of k, and exchanges
  -- a look that found a word of such a kind, and then an exchange, which was made: by this event the thread knows this
  abbrev pub Exchanges : PassShown (LotPassView V) → ℕ → (ℕ → Type 0) → SemPassView → Event → PassShown (LotPassView V) → Type 0
  Exchanges p k could own e q =
      (word : ℕ) × could word × ((r : PassShown (LotPassView V)) × FindsOf p k word r × NotesIn sem r own (Makes e (Saw true)) q)

  -- a look that found a word of such a kind, and then an exchange that found another word than the look
  abbrev pub Misses : PassShown (LotPassView V) → ℕ → (ℕ → Type 0) → PassShown (LotPassView V) → Type 0
  Misses p k could q =
      (seen found : ℕ) × could seen × (found ≢ seen) × ((r : PassShown (LotPassView V)) × FindsOf p k seen r × FindsOf r k found q)

  -- ---- tries to take a permit of k, by an exchange of the word that a look found; or with the look
  abbrev pub TakesFrom : PassShown (LotPassView V) → ℕ → ℕ → Taken → PassShown (LotPassView V) → Type 0
  TakesFrom p k seen Got q = NotesIn sem p (one_permit_more p.own.sems k) (Makes (SemTake p.thread k) (Saw true)) q
  TakesFrom p k seen Empty q = ⊥
  TakesFrom p k seen Busy q = (found : ℕ) × (found ≢ seen) × FindsOf p k found q

  abbrev pub TriesPermit : PassShown (LotPassView V) → ℕ → Taken → PassShown (LotPassView V) → Type 0
  TriesPermit p k Got q = Exchanges p k IsAnyLeft (one_permit_more p.own.sems k) (SemTake p.thread k) q
  TriesPermit p k Empty q = (word : ℕ) × (word < 2) × FindsOf p k word q
  TriesPermit p k Busy q = Misses p k IsAnyLeft q

  -- the same, where a thread that finds none seeks one
  abbrev pub TakesPermit : PassShown (LotPassView V) → ℕ → Taken → PassShown (LotPassView V) → Type 0
  TakesPermit p k Got q = Exchanges p k IsAnyLeft (one_permit_more p.own.sems k) (SemTake p.thread k) q
  TakesPermit p k Empty q = NotesIn sem p (seeking p.own.sems k) (Makes (SemTake p.thread k) (Saw false)) q
  TakesPermit p k Busy q = Misses p k IsAnyLeft q

  -- ---- a try to give a permit of k back at once, and whether it was
  abbrev pub FreesPermit : PassShown (LotPassView V) → ℕ → Bool → PassShown (LotPassView V) → Type 0
  FreesPermit p k true q = Exchanges p k IsUnmarked (one_permit_less p.own.sems k) (SemFree p.thread k) q
  FreesPermit p k false q = ((word : ℕ) × (word % 2 ≡ 1) × FindsOf p k word q) ⊎ Misses p k IsUnmarked q

  -- ---- letters of conditions and of semaphores, whose tokens are all 0
  abbrev pub CollectsCond : PassShown (LotPassView V) → ℕ → PassShown (LotPassView V) → Type 0
  CollectsCond p token q =
      (token ≡ 0)
      × ((c : ℕ) × ((p.own.conds.out ≡ Some c) × NotesIn cond p (one_wait_more p.own.conds c) (Collects p.thread (Some token)) q))

  abbrev pub CollectsSem : PassShown (LotPassView V) → ℕ → PassShown (LotPassView V) → Type 0
  CollectsSem p token q = (token ≡ 0) × (p.own.sems.asleep ≡ true) × NotesIn sem p (sem_woken p.own.sems) (Collects p.thread (Some token)) q

module _ {V Part : Type 0} (rule : CallersRule V Part) where
  -- q is the pass p after it got the lock l, by this access, with the value that it found
  abbrev pub GetsBy : PassShown (LotPassView V) → ℕ → Access → PassShown (LotPassView V) → Type 0
  GetsBy p l a q = (x : V) × FoundOk rule l p.thread p.own.locks x × NotesIn lock p (owning p.own.locks l x) a q

  -- a lock's letter: a barging opportunity, or the lock itself, with the value that was found
  abbrev pub CollectsLock : PassShown (LotPassView V) → ℕ → PassShown (LotPassView V) → Type 0
  CollectsLock p zero q = NotesIn lock p (lock_woken p.own.locks) (Collects p.thread (Some 0)) q
  CollectsLock p (suc k) q =
      (k ≡ 0) × ((l : ℕ) × (p.own.locks.aim ≡ Some l)
      × ((x : V) × FoundOk rule l p.thread p.own.locks x
      × NotesIn lock p (lock_woken (owning p.own.locks l x)) (Collects p.thread (Some 1)) q))

  -- q is the pass p after it collected its letter: by where it is away, it is a lock's, a condition's, or a semaphore's
  abbrev pub CollectsIn : PassShown (LotPassView V) → Bool → Option ℕ → ℕ → PassShown (LotPassView V) → Type 0
  CollectsIn p true out token q = CollectsLock p token q
  CollectsIn p false (Some c) token q = CollectsCond p token q
  CollectsIn p false None token q = CollectsSem p token q

  abbrev pub Collected : PassShown (LotPassView V) → ℕ → PassShown (LotPassView V) → Type 0
  Collected p token q = CollectsIn p p.own.locks.asleep p.own.conds.out token q
