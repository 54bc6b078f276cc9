-- What became of a try to get a permit of k: with a permit the thread has one more than before, and else it stands as
-- it did.
use Rattle.std.specs.Prelude.{◌≡◌, ℕ}
use Rattle.lot_sems.specs.declared.taking.Taken.TheVariants.{Got as HasGot, Empty as FoundNone, Busy as WasBusy}
use Rattle.lot_scheme.specs.Standing.{LotStanding}
use Rattle.lot_scheme.specs.SemCalls.{TriesPermit}
use Rattle.lot_permits.specs.declared.permit.Tried.{Tried}
use Rattle.lot_permits.specs.declared.permit.Tried.TheVariants.{Got, Empty, Busy}

abbrev pub TriesToGet : {V A : Type 0} → LotStanding V → ℕ → Tried V A → LotStanding V → Type 0
TriesToGet p k (Got permit) q = (permit.key ≡ k) × (permit.thread ≡ p.thread) × TriesPermit p k HasGot q
TriesToGet p k Empty q = TriesPermit p k FoundNone q
TriesToGet p k Busy q = TriesPermit p k WasBusy q
