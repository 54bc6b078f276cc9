-- What `close` tells of the history.
use Rattle.std.specs.Prelude.{◌≡◌, ℕ, ◌*◌, List, length, map, slice_get, Some}
use Rattle.std.specs.List.{All}
use Rattle.lot_rights.specs.declared.views.Entry.{Entry}
use Rattle.lot_rights.specs.Shown.{PassShown, RootShown}
use Rattle.lot_whole.specs.declared.views.LotPassView.{LotPassView}
use Rattle.lot_whole.specs.declared.views.LotRootView.{LotRootView}
use Rattle.lot_whole.specs.Order.{accesses_of}
use Rattle.lot_whole.specs.Closing.{IsToldTo, IsQuiet}
use Rattle.lot_scheme.specs.Roots.{size_named}
use Rattle.lot_scheme.specs.Counts.{CountedWith, CountsOf}
use Rattle.lot_sync.specs.Lot.{PassView, LotNames}
use Rattle.lot_sync.specs.Passes.{pass_view_shown}

-- One history was made with these passes, and what was made with each pass is its thread's part of it. Without its
-- notices it is one run of the whole model, from the opening of this name to a sound state, in which the permits that
-- are left and those that are out are all that there were, no lock is held and nobody waits
pub record HasOneRun {V : Type 0} (names : LotNames V) (passes : List (PassView V)) : Type 0 where
  pub rights : List (PassShown (LotPassView V))
  pub roots : List (RootShown LotRootView)
  pub are : map pass_view_shown rights ≡ passes
  pub told : IsToldTo (size_named names.threads names.locks names.conds names.permits) rights roots
  pub quiet : IsQuiet told.recounted.part
  pub made : All (λ (p : PassView V). p.made ≡ accesses_of (2 * p.thread) told.recounted.log) passes

-- ---- what was counted of the keys
module _ {C : Type 0} (counts : C → ℕ → ℕ → ℕ → Type 0) where
  -- each was counted with the root at its place
  abbrev pub AreCountedWith : List (RootShown LotRootView) → List C → Type 0
  AreCountedWith roots cs =
      (i : ℕ) (c : C) (r : RootShown LotRootView) → slice_get cs i ≡ Some c → slice_get roots i ≡ Some r → CountedWith (counts c) r

  -- There is one for each root, and the roots are in order. Each tells what the history has of the key at its place
  pub record AreCounts (log : List Entry) (roots : List (RootShown LotRootView)) (cs : List C) : Type 0 where
    pub each : length roots ≡ length cs
    pub keys : (i : ℕ) (r : RootShown LotRootView) → slice_get roots i ≡ Some r → r.key ≡ i
    pub tell : (i : ℕ) (c : C) (r : RootShown LotRootView) → slice_get cs i ≡ Some c → slice_get roots i ≡ Some r
        → CountsOf (counts c) log i
