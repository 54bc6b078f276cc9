-- What each kind of call does to the rights that it is handed.
use Rattle.std.specs.Prelude.{◌≡◌, ℕ, zero, suc, ◌++◌, if◌then◌else◌, Bool, true, false, List, [], ◌∷◌, slice_set, Option, Some, None}
use Rattle.lot_rights.specs.declared.views.Access.{Access}
use Rattle.lot_rights.specs.declared.views.Access.TheVariants.{Collects}
use Rattle.lot_rights.specs.Shown.{PassShown}
use Rattle.lot_rights.specs.Steps.{Notes}
use Rattle.lot_words.specs.declared.views.Hold.TheVariants.{NotHeld, Held, FoundParked}
use Rattle.lot_words.specs.declared.views.LockPassView.{LockPassView}
use Rattle.lot_words.specs.declared.views.LockRootView.{LockRootView}
use Rattle.lot_words.specs.declared.views.Place.{Place}
use Rattle.lot_words.specs.declared.views.Place.TheVariants.{InSlot}
use Rattle.lot_words.specs.CallersRule.{CallersRule}
use Rattle.lot_words.specs.Values.{FoundOk}

-- ---- the pass
module _ {V : Type 0} where
  -- the thread has the lock, whose value x lies in its slot, and wants none
  abbrev pub owning : LockPassView V → ℕ → V → LockPassView V
  owning p l x =
      record p { holds = slice_set p.holds l Held; aim = None; places = slice_set p.places l (InSlot x); seen = slice_set p.seen l x }

  -- the thread wants the lock
  abbrev pub wanting : LockPassView V → ℕ → LockPassView V
  wanting p l = record p { aim = Some l }

  abbrev pub sleeping : LockPassView V → LockPassView V
  sleeping p = record p { asleep = true }

  abbrev pub woken : LockPassView V → LockPassView V
  woken p = record p { asleep = false }

  -- the thread has let the lock go, and left the value y
  abbrev pub letting_go : LockPassView V → ℕ → V → LockPassView V
  letting_go p l y = record p { holds = slice_set p.holds l NotHeld; seen = slice_set p.seen l y }

  abbrev pub finding_parked : LockPassView V → ℕ → LockPassView V
  finding_parked p l = record p { holds = slice_set p.holds l FoundParked }

  -- the value of the lock is at this place
  abbrev pub placing : LockPassView V → ℕ → Place V → LockPassView V
  placing p l pl = record p { places = slice_set p.places l pl }

  -- the thread wants no other lock than l
  abbrev pub Aims : LockPassView V → ℕ → Type 0
  Aims p l = (k : ℕ) → p.aim ≡ Some k → k ≡ l

  abbrev pub parked_pass : LockPassView V → Bool → LockPassView V
  parked_pass p queued = if queued then sleeping p else p

-- ---- the root
abbrev pub parked_root : LockRootView → ℕ → Bool → LockRootView
parked_root q t queued = if queued then record q { line = q.line ++ t ∷ [] } else q

abbrev pub token_of : Bool → ℕ
token_of true = 1
token_of false = 0

-- the first of the line is taken, and owed a letter
abbrev pub passed_root : LockRootView → Bool → List ℕ → LockRootView
passed_root q fair [] = q
passed_root q fair (u ∷ us) = record q { line = us; owes = Some (u, token_of fair) }

abbrev pub paid_root : LockRootView → LockRootView
paid_root q = record q { owes = None }

-- the word of a lock that is let go, of whose line this was the first
abbrev pub word_left : Option ℕ → Bool → ℕ
word_left None more = 0
word_left (Some u) true = 2
word_left (Some u) false = 0

-- ---- what is got and what is collected
-- q is the pass p after it found no letter
abbrev pub FoundNone : {V : Type 0} → PassShown (LockPassView V) → PassShown (LockPassView V) → Type 0
FoundNone p q = Notes p p.own (Collects p.thread None) q

module _ {V Part : Type 0} (rule : CallersRule V Part) where
  -- q is the pass p after it got the lock l, by this access, with the value that it found
  abbrev pub GetsBy : PassShown (LockPassView V) → ℕ → Access → PassShown (LockPassView V) → Type 0
  GetsBy p l a q = (x : V) × FoundOk rule l p.thread p.own x × Notes p (owning p.own l x) a q

  -- q is the pass p, which was asleep, after it collected a letter: a barging opportunity, or the lock itself, with the
  -- value found
  abbrev pub Collected : PassShown (LockPassView V) → ℕ → PassShown (LockPassView V) → Type 0
  Collected p zero q = (p.own.asleep ≡ true) × Notes p (woken p.own) (Collects p.thread (Some 0)) q
  Collected p (suc k) q =
      (k ≡ 0) × (p.own.asleep ≡ true)
      × ((l : ℕ) × (p.own.aim ≡ Some l)
      × ((x : V) × FoundOk rule l p.thread p.own x × Notes p (woken (owning p.own l x)) (Collects p.thread (Some 1)) q))

  -- by the number in the letter
  abbrev pub CollectedBy : PassShown (LockPassView V) → ℕ → PassShown (LockPassView V) → Type 0
  CollectedBy p zero q = FoundNone p q
  CollectedBy p (suc token) q = Collected p token q
