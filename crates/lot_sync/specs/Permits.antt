-- Permits of semaphores, as the passes of a lot hold them.
use Rattle.std.specs.Prelude.{◌≡◌, ℕ, ◌≤◌}
use Rattle.lot_permits.specs.Permits.{PermitView}
use Rattle.lot_permits.specs.declared.permit.Tried.{Tried}
use Rattle.lot_permits.specs.declared.permit.Tried.TheVariants.{Got, Empty, Busy}
use Rattle.lot_sync.specs.Lot.{PassView, ◌≈◌, permits_with, one_permit_more}

module _ {V : Type 0} where
  -- the permit is one that the pass holds
  abbrev pub HasPermit : PassView V → PermitView → Type 0
  HasPermit p permit = (permit.thread ≡ p.thread) × (1 ≤ permits_with p permit.key)

  -- what became of a try to get a permit of k: with a permit the pass q holds one more than p did, and else it is as it
  -- was
  abbrev pub TriesToGet : {A B : Type 0} → PassView V → ℕ → Tried A B → PassView V → Type 0
  TriesToGet p k (Got permit) q = (permit.key ≡ k) × (permit.thread ≡ p.thread) × (q ≈ one_permit_more p k)
  TriesToGet p k Empty q = q ≈ p
  TriesToGet p k Busy q = q ≈ p
