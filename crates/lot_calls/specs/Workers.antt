-- Workers: passes were taken from a lot, were worked with and came back, and then the lot was closed.
use Rattle.std.specs.Prelude.{◌≡◌, ℕ, ◌<◌, List, length, map, slice_get, slice_index_or, Some}
use mathlib.Core.Option.{some}
use lib.ListN.{get_elem?}
use Rattle.std.specs.List.{All, Any}
use Rattle.lot_words.specs.CallersRule.{CallersRule}
use Rattle.lot_sync.specs.Lot.{LotView, PassView, OwnsNone, HasShape, rested}
use Rattle.lot_sync.specs.Values.{GoesOnTo}
use Rattle.lot_calls.specs.Visits.{own_parts}
use Rattle.lot_calls.specs.Finished.{IsReady}

-- what lies in each place of the second list is what became of that of the first
pub record EachBecomes {A : Type 0} (becomes : A → A → Type 0) (before after : List A) : Type 0 where
  pub count : length after ≡ length before
  pub each : (i : ℕ) (d : A) → i < length before → becomes (slice_index_or before i d) (slice_index_or after i d)

module _ {V : Type 0} (lot : LotView) where
  -- a worker gives back the pass that it was given, which owns nothing
  pub record ComesBack (before after : PassView V) : Type 0 where
    pub same_thread : after.thread ≡ before.thread
    pub free : OwnsNone after
    pub shape : HasShape lot after

  -- the passes of all threads, which own nothing
  pub record AreBack (passes : List (PassView V)) : Type 0 where
    pub count : length passes ≡ lot.threads
    pub all : (t : ℕ) → t < lot.threads → Any (λ (p : PassView V). p.thread ≡ t) passes
    pub free : All OwnsNone passes
    pub shape : All (HasShape lot) passes

module _ {V Part : Type 0} (rule : CallersRule V Part) where
  -- a pass with which its thread may leave: it owns nothing, and keeps what passes that are in keep
  pub record MayLeave (p : PassView V) : Type 0 where
    pub free : OwnsNone p
    pub rests : rule.rests (rested p)

  -- each value has grown from what lay under its key at the opening
  abbrev pub HaveGrown : List V → List V → Type 0
  HaveGrown opening values = (key : ℕ) (u v : V) → get_elem? opening key ≡ some u → slice_get values key ≡ Some v → rule.grows u v

  -- the values go on from all that the pass had seen, and have its own parts as it saw them
  pub record EndsIn (values : List V) (p : PassView V) : Type 0 where
    pub goes_on : GoesOnTo rule values p
    pub own : map (rule.part p.thread) values ≡ own_parts rule p

  -- the pass of this thread was in the lot, came back as its work tells, and what it had seen then ended in these
  -- values
  pub record HasWorked (opening : List V) (lot : LotView) (becomes : PassView V → PassView V → Type 0) (values : List V)
      (thread : ℕ) : Type 0 where
    pub before : PassView V
    pub after : PassView V
    pub ready : IsReady rule opening lot before
    pub worked : becomes before after
    pub same_thread : after.thread ≡ thread
    pub goes_on : GoesOnTo rule values after
    pub own : map (rule.part thread) values ≡ own_parts rule after
