-- Permits, and how many of them a thread holds.
use Rattle.std.specs.Prelude.{◌≡◌, ℕ, ◌≤◌, slice_index}
use Rattle.lot_scheme.specs.Standing.{LotStanding}

-- a permit: of which semaphore it is, and which thread got it
pub record PermitView : Type 0 where
  pub key : ℕ
  pub thread : ℕ

module _ {V : Type 0} where
  -- how many permits of k the thread holds
  abbrev pub permits_with : LotStanding V → ℕ → ℕ
  permits_with p k = slice_index p.own.sems.out k

  -- the permit is one that the thread holds
  abbrev pub HasPermit : LotStanding V → PermitView → Type 0
  HasPermit p permit = (permit.thread ≡ p.thread) × (1 ≤ permits_with p permit.key)
