-- The lot of a schedule, and the permits of its threads.
use Rattle.std.specs.Prelude.{◌≡◌, ◌≢◌, ◌<◌, ◌≤◌, ℕ}
use Rattle.lot_permits.specs.Permits.{PermitView}
use Rattle.lot_sync.specs.Lot.{LotView, PassView, Owns, permits_with}

-- the lot of a schedule has so many locks, conditions and semaphores
abbrev pub HasSizes : LotView → Type 0
HasSizes lot = (lot.locks ≡ 14) × (lot.conds ≡ 13) × (lot.sems ≡ 2)

-- a pass that owns no lock, and holds so many permits of this one's semaphore and no other
pub record HasPermits {V : Type 0} (pass : PassView V) (permit : PermitView) (count : ℕ) : Type 0 where
  pub no_lock : (key : ℕ) → ¬ Owns pass key
  pub sem : (27 ≤ permit.key) × (permit.key < 29)
  pub mine : permit.thread ≡ pass.thread
  pub many : permits_with pass permit.key ≡ count
  pub others : (key : ℕ) → key ≢ permit.key → permits_with pass key ≡ 0
