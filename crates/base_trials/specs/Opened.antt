-- The rights of a lot for three threads: as the opening made them, and as they come back at the end.
use Rattle.std.specs.Prelude.{◌≡◌, ℕ, ◌+◌, ◌<◌, List, [], length, slice_get, Some}
use Rattle.std.specs.List.{All, Any}
use Rattle.atomic_table.specs.Seated.{TableId}
use Rattle.lot_rights.specs.Shown.{PassShown, RootShown, pass_at_table, root_at_table}
use Rattle.lot_rights.specs.Start.{new_pass, new_root}
use Rattle.lot_waits.specs.Counts.{counts_in, uncounted}
use Rattle.lot_whole.specs.Closing.{HasDone}
use Rattle.lot_whole.specs.declared.views.LotPassView.{LotPassView}
use Rattle.lot_whole.specs.declared.views.LotRootView.{LotRootView}
use Rattle.lot_whole.specs.Family.{LotSize}
use Rattle.lot_whole.specs.Lot.{fresh_pass, fresh_root}
use Rattle.lot_scheme.specs.Standing.{LotStanding}
use Rattle.base_trials.specs.Calm.{IsCalm}

-- the size of a lot without semaphores
abbrev pub size_of : ℕ → ℕ → LotSize
size_of locks conds = record { threads = 3; locks = locks; conds = conds; permits = [] }

-- ---- as the opening made them
module _ {V : Type 0} where
  abbrev pub fresh_at : TableId → LotSize → List V → ℕ → PassShown (LotPassView V)
  fresh_at table size values t = pass_at_table table (new_pass (λ u. fresh_pass size values) t)

  -- the passes, in order
  pub record AreDealt (table : TableId) (locks conds : ℕ) (passes : List (PassShown (LotPassView V))) : Type 0 where
    pub values : List V
    pub long : length passes ≡ 3
    pub each : (t : ℕ) → t < 3 → slice_get passes t ≡ Some (fresh_at table (size_of locks conds) values t)

  -- a pass that was used for nothing yet
  abbrev pub IsUntouched : ℕ → ℕ → LotStanding V → Type 0
  IsUntouched keys t p = IsCalm t p × (counts_in p ≡ uncounted keys t)

-- the roots, in order
pub record AreFreshRoots (table : TableId) (locks conds : ℕ) (roots : List (RootShown LotRootView)) : Type 0 where
  pub long : length roots ≡ locks + conds
  pub each : (c : ℕ) → c < locks + conds → slice_get roots c ≡ Some
      (root_at_table table (new_root (fresh_root (size_of locks conds)) c))

-- the words of so many locks and conditions, whose table has this name, and all their rights
abbrev pub IsOpened : {V : Type 0} → ℕ → ℕ → TableId → TableId → LotSize → List (PassShown (LotPassView V))
    → List (RootShown LotRootView) → Type 0
IsOpened locks conds name table size passes roots =
    (table ≡ name) × (size ≡ size_of locks conds) × AreDealt table locks conds passes × AreFreshRoots table locks conds roots

-- ---- as they come back
pub record AreBack {V : Type 0} (table : TableId) (passes : List (PassShown (LotPassView V))) : Type 0 where
  pub named : All (λ (p : PassShown (LotPassView V)). p.table ≡ table) passes
  pub done : All HasDone passes
  pub threads : (t : ℕ) → t < 3 → Any (λ (p : PassShown (LotPassView V)). p.thread ≡ t) passes

pub record AreRootsBack (table : TableId) (keys : ℕ) (roots : List (RootShown LotRootView)) : Type 0 where
  pub named : All (λ (q : RootShown LotRootView). q.table ≡ table) roots
  pub each : (c : ℕ) → c < keys → Any (λ (q : RootShown LotRootView). q.key ≡ c) roots
