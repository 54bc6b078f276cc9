-- What a lot's pass is seen as, and how it stands between two calls.
use Rattle.std.specs.Prelude.{◌≡◌, ◌≢◌, ℕ, ◌<◌, ◌+◌, Bool, true, false, map, length}
use mathlib.Core.Option.{some}
use lib.ListN.{get_elem?}
use Rattle.atomic_table.specs.Seated.{TableId}
use Rattle.lot_rights.specs.Shown.{PassShown}
use Rattle.lot_words.specs.declared.views.Hold.{Hold}
use Rattle.lot_words.specs.declared.views.Hold.TheVariants.{NotHeld, Held, FoundParked}
use Rattle.lot_words.specs.World.{Holds}
use Rattle.lot_words.specs.Values.{IsOut, IsIn}
use Rattle.lot_whole.specs.declared.views.LotPassView.{LotPassView}
use Rattle.lot_whole.specs.Closing.{HasDone}
use Rattle.lot_whole.specs.Standing.{IsIdle}
use Rattle.lot_scheme.specs.Standing.{LotStanding, standing}
use Rattle.lot_waits.specs.Counts.{AreKept, counts_in}
use Rattle.lot_waits.specs.declared.tallies.Tallies.{Tallies}
use Rattle.lot_sync.specs.Lot.{PassView, LotNames, HasGrown}

abbrev pub is_held : Hold → Bool
is_held NotHeld = false
is_held Held = true
is_held FoundParked = true

module _ {V : Type 0} where
  -- what the caller sees of a pass that stands so
  abbrev pub pass_view_of : LotStanding V → PassView V
  pass_view_of r = record {
    thread = r.thread;
    owns = map is_held r.own.locks.holds;
    seen = r.own.locks.seen;
    called = r.own.conds.called;
    woken = r.own.conds.woken;
    permits = r.own.sems.out;
    made = r.did;
  }

  abbrev pub pass_view_shown : PassShown (LotPassView V) → PassView V
  pass_view_shown p = pass_view_of (standing p)

  -- a pass of one of the threads, with a number or a value for each key, whose values go on from those of the opening
  pub record IsOfLot (grows : V → V → Type 0) (names : LotNames V) (r : LotStanding V) : Type 0 where
    pub is_thread : r.thread < names.threads
    pub holds_long : length r.own.locks.holds ≡ names.locks
    pub places_long : length r.own.locks.places ≡ names.locks
    pub seen_long : length r.own.locks.seen ≡ names.locks
    pub called_long : length r.own.conds.called ≡ names.first_sem
    pub woken_long : length r.own.conds.woken ≡ names.first_sem
    pub permits_long : length r.own.sems.out ≡ names.first_sem + length names.permits
    pub grown : (l : ℕ) (u v : V) → get_elem? names.values l ≡ some u → get_elem? r.own.locks.seen l ≡ some v → grows u v

  -- so much is kept of what it has counted
  abbrev pub AreTallied : ℕ → ℕ → LotStanding V → Tallies → Type 0
  AreTallied locks conds r t = AreKept locks conds (counts_in r) t.called.items t.woken.items

  -- it is idle, and has out the value of each lock that it holds
  pub record IsAtRest (grows : V → V → Type 0) (names : LotNames V) (r : LotStanding V) : Type 0 where
    pub of_lot : IsOfLot grows names r
    pub idle : IsIdle r.own
    pub out : (l : ℕ) → Holds r.own.locks l → IsOut r.own.locks l

  -- the same of a pass that has just got the lock of a key, whose value lies in its slot
  pub record IsNewOwner (grows : V → V → Type 0) (names : LotNames V) (r : LotStanding V) (key : ℕ) : Type 0 where
    pub of_lot : IsOfLot grows names r
    pub idle : IsIdle r.own
    pub holds : Holds r.own.locks key
    pub value : V
    pub lies : IsIn r.own.locks key value
    pub out : (l : ℕ) → l ≢ key → Holds r.own.locks l → IsOut r.own.locks l

  -- a pass of this table that holds no lock, is out on no condition, and stands idle
  pub record IsFree (table : TableId) (p : PassShown (LotPassView V)) : Type 0 where
    pub is_of : p.table ≡ table
    pub done : HasDone p
    pub idle : IsIdle p.own

-- what each pass of a lot of this name is: of one of its threads, with a number or a value for each key, and gone on
-- from the opening values
pub record IsPassOf {V : Type 0} (names : LotNames V) (grows : V → V → Type 0) (p : PassView V) : Type 0 where
  pub is_thread : p.thread < names.threads
  pub owns_long : length p.owns ≡ names.locks
  pub seen_long : length p.seen ≡ names.locks
  pub called_long : length p.called ≡ names.first_sem
  pub woken_long : length p.woken ≡ names.first_sem
  pub permits_long : length p.permits ≡ names.first_sem + length names.permits
  pub grown : HasGrown grows names.values p
