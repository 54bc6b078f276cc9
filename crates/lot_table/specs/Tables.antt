use Rattle.std.specs.Prelude.{◌≡◌, ℕ, ◌<◌, List, map, length, slice_index_or}
use Rattle.std.specs.declared.sync.MutexGuard.{MutexGuard}
use Rattle.std.specs.Sync.Mutex.{mutex_guard_value}
use Rattle.lot_bucket.specs.Contents.{Contents}
use Rattle.lot_bucket.specs.Settled.{Lying}

-- the bounds of a table: threads and keys have the numbers below these
pub record Bounds : Type 0 where
  pub threads : ℕ
  pub keys : ℕ

-- how many buckets a version has
pub record Extent : Type 0 where
  pub size : ℕ

-- the buckets behind locked locks
abbrev pub under : {R : Type 0} → List (MutexGuard (Lying R)) → List (Contents R)
under {R} guards = map (λ (g : MutexGuard (Lying R)). (mutex_guard_value g).bucket) guards

-- which bucket of a version lies behind a lock: its number, and how many buckets the version has
pub record Spot : Type 0 where
  pub number : ℕ
  pub size : ℕ

-- each lock of a version is that of its number
abbrev pub AreNumbered : List Spot → Type 0
AreNumbered spots = (i : ℕ) (d : Spot) → i < length spots → slice_index_or spots i d ≡ record { number = i; size = length spots }
