-- What a lot, its passes and its held values are seen as, and what joins the parts of a lot.
use Rattle.lot_order.specs.Order.{Keys}
use Rattle.lot_rights.specs.Opening.{Opening}
use Rattle.lot_rights.specs.declared.views.Access.{Access}
use Rattle.lot_words.specs.Rested.{Rested}
use Rattle.lot_waits.specs.Counts.{CountsView}
use Rattle.lot_waits.specs.Ledger.{IsLedger}
use Rattle.lot_park.specs.Lots.{ParkingView}
use Rattle.lot_whole.specs.Shown.{LotWordsShown}
use Rattle.std.specs.Prelude.{◌≡◌, ℕ, ◌+◌, ◌-◌, ◌<◌, ◌≤◌, Bool, true, false, List, length, map, slice_set, slice_index, slice_index_or}
use mathlib.Core.Option.{some}
use lib.ListN.{get_elem?}

pub record LotView : Type 0 where
  pub threads : ℕ
  pub locks : ℕ
  pub conds : ℕ
  pub sems : ℕ

-- what a name tells of a lot: its table; the number of its first semaphore, and how many permits each semaphore has at
-- the opening; its numbers of locks, conditions and threads; and the values that it opened with. A clause has it as
-- `N.LotName`
abbrev pub LotNames : Type 0 → Type 0
LotNames V = record { opening : Opening; first_sem : ℕ; permits : List ℕ; locks : ℕ; conds : ℕ; threads : ℕ; values : List V }

-- the number of a condition: they follow the locks'
abbrev pub IsCond : LotView → ℕ → Type 0
IsCond lot c = (lot.locks ≤ c) × (c < lot.locks + lot.conds)

-- the number of a semaphore: they follow the conditions'
abbrev pub IsSem : LotView → ℕ → Type 0
IsSem lot k = (lot.locks + lot.conds ≤ k) × (k < lot.locks + lot.conds + lot.sems)

-- a pass: its thread, which locks it owns, what it has seen of each value, and by key how many sleepers it took from
-- the condition's line, how many of its own waits ended, and how many permits of the semaphore it holds; and the
-- accesses that were made with it, the oldest first
pub record PassView (V : Type 0) : Type 0 where
  pub thread : ℕ
  pub owns : List Bool
  pub seen : List V
  pub called : List ℕ
  pub woken : List ℕ
  pub permits : List ℕ
  pub made : List Access

infix 26 ◌≈◌
-- the pass q, but for the accesses that were made with it
abbrev pub ◌≈◌ : {V : Type 0} → PassView V → PassView V → Type 0
p ≈ q = p ≡ record q { made = p.made }

-- a value that was taken from its lock
pub record HeldView (V : Type 0) : Type 0 where
  pub key : ℕ
  pub value : V

module _ {V : Type 0} where
  abbrev pub Owns : PassView V → ℕ → Type 0
  Owns p key = slice_index_or p.owns key false ≡ true

  -- how many permits of the semaphore it holds
  abbrev pub permits_with : PassView V → ℕ → ℕ
  permits_with p key = slice_index p.permits key

  -- what it has: locks, and permits
  abbrev pub keys_of : PassView V → Keys
  keys_of p = record { locks = Owns p; permits = permits_with p }

  -- it owns no lock, and holds no permit
  pub record OwnsNone (p : PassView V) : Type 0 where
    pub no_lock : (key : ℕ) → ¬ Owns p key
    pub no_permit : (key : ℕ) → permits_with p key ≡ 0

  -- the pass knows of each lock whether it owns it and what it has seen of its value, and of each key what it counted
  -- and holds
  pub record HasShape (lot : LotView) (p : PassView V) : Type 0 where
    pub owns : length p.owns ≡ lot.locks
    pub seen : length p.seen ≡ lot.locks
    pub called : length p.called ≡ lot.locks + lot.conds
    pub woken : length p.woken ≡ lot.locks + lot.conds
    pub permits : length p.permits ≡ lot.locks + lot.conds + lot.sems

  -- u is what the pass has seen of the key's value
  abbrev pub HasSeen : PassView V → ℕ → V → Type 0
  HasSeen p key u = get_elem? p.seen key ≡ some u

  -- the pass owns the lock, where it found the value
  abbrev pub owning : PassView V → ℕ → V → PassView V
  owning p key value = record p { owns = slice_set p.owns key true; seen = slice_set p.seen key value }

  -- the pass let the lock go, and left the value there
  abbrev pub letting_go : PassView V → ℕ → V → PassView V
  letting_go p key value = record p { owns = slice_set p.owns key false; seen = slice_set p.seen key value }

  -- one wait more on the condition has ended
  abbrev pub one_wait_more : PassView V → ℕ → PassView V
  one_wait_more p c = record p { woken = slice_set p.woken c (slice_index p.woken c + 1) }

  -- so many sleepers more were taken from the condition's line
  abbrev pub called_more : PassView V → ℕ → ℕ → PassView V
  called_more p c count = record p { called = slice_set p.called c (slice_index p.called c + count) }

  -- one permit of the semaphore more
  abbrev pub one_permit_more : PassView V → ℕ → PassView V
  one_permit_more p k = record p { permits = slice_set p.permits k (permits_with p k + 1) }

  -- one permit of the semaphore less
  abbrev pub one_permit_less : PassView V → ℕ → PassView V
  one_permit_less p k = record p { permits = slice_set p.permits k (permits_with p k - 1) }

  -- each opening value grows to what the pass has seen of it
  abbrev pub HasGrown : (V → V → Type 0) → List V → PassView V → Type 0
  HasGrown grows opening p = (key : ℕ) (u v : V) → get_elem? opening key ≡ some u → HasSeen p key v → grows u v

  -- what the rule of its values may ask of the pass when its thread leaves
  abbrev pub rested : PassView V → Rested V
  rested p = record { thread = p.thread; seen = p.seen; called = p.called; woken = p.woken; made = p.made }

  -- what the pass counted, of each condition by its key
  abbrev pub counts_of : PassView V → CountsView
  counts_of p = record { thread = p.thread; called = p.called; woken = p.woken }

  -- of each condition, modulo 2^64, the sleepers that these passes took from its line, and the waits of theirs that
  -- ended; they are equal
  abbrev pub IsLedgerOf : LotView → List (PassView V) → List ℕ → List ℕ → Type 0
  IsLedgerOf lot passes called woken = IsLedger lot.locks lot.conds (map counts_of passes) called woken

-- what joins the parts of a lot: its words are those of its name, and so are its numbers
pub record IsLot {V : Type 0} (names : LotNames V) (threads locks conds sems : ℕ) (parking : ParkingView (LotWordsShown V)) : Type 0 where
  pub table : parking.scheme.table ≡ names.opening.locks
  pub threads_are : parking.scheme.size.threads ≡ names.threads
  pub locks_are : parking.scheme.size.locks ≡ names.locks
  pub conds_are : parking.scheme.size.conds ≡ names.conds
  pub permits_are : parking.scheme.size.permits ≡ names.permits
  pub named_locks : names.locks ≡ length names.values
  pub named_first_sem : names.first_sem ≡ names.locks + names.conds
  pub parking_threads : parking.threads ≡ names.threads
  pub parking_keys : parking.keys ≡ names.first_sem + length names.permits
  pub own_threads : threads ≡ names.threads
  pub own_locks : locks ≡ names.locks
  pub own_conds : conds ≡ names.conds
  pub own_sems : sems ≡ length names.permits
