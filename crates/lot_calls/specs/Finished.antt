-- The end of a lot: all its passes were taken, and it is closed.
use Rattle.std.specs.Prelude.{◌≡◌, ℕ, ◌<◌, List, length, slice_index_or}
use Rattle.std.specs.List.{All, Any}
use Rattle.lot_words.specs.CallersRule.{CallersRule}
use Rattle.lot_sync.specs.Lot.{LotNames, LotView, PassView, OwnsNone, HasShape, HasGrown, IsLedgerOf, rested}
use Rattle.lot_sync.specs.Values.{GoesOnTo, AreSeen}
use Rattle.lot_sync.specs.Closing.{HasOneRun}

module _ {V Part : Type 0} (rule : CallersRule V Part) where
  -- a pass that was in the lot: it owns no lock and holds no permit, keeps what passes that are in keep, and what it
  -- has seen grew from the opening values
  pub record IsReady (opening : List V) (lot : LotView) (p : PassView V) : Type 0 where
    pub is_thread : p.thread < lot.threads
    pub free : OwnsNone p
    pub rests : rule.rests (rested p)
    pub shape : HasShape lot p
    pub grown : HasGrown rule.grows opening p

  -- the passes of all threads, in order, which were in the lot
  pub record AreTaken (opening : List V) (lot : LotView) (passes : List (PassView V)) : Type 0 where
    pub count : length passes ≡ lot.threads
    pub order : (t : ℕ) (p : PassView V) → t < lot.threads → (slice_index_or passes t p).thread ≡ t
    pub all : (t : ℕ) → t < lot.threads → Any (λ (p : PassView V). p.thread ≡ t) passes
    pub ready : All (IsReady opening lot) passes

  -- the passes of all threads were taken out of the lot: the values go on from all that each had seen, and some pass
  -- saw each last; the ledger is that of what they had counted; and what was made with them is one run of the whole
  -- model
  pub record IsFinished (names : LotNames V) (lot : LotView) (values : List V) (called woken : List ℕ) : Type 0 where
    pub passes : List (PassView V)
    pub taken : AreTaken names.values lot passes
    pub goes_on : All (GoesOnTo rule values) passes
    pub seen : AreSeen values passes
    pub ledger : IsLedgerOf lot passes called woken
    pub history : HasOneRun names passes
