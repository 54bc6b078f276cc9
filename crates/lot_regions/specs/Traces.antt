-- Traces of regions: which accesses a call made with the pass of its thread t, the oldest first. l is a lock, c a
-- condition; now is the moment of the unlock.
use Rattle.std.specs.Prelude.{◌≡◌, ℕ, zero, suc, ◌+◌, Bool, true, false, List, []}
use Rattle.lot_rights.specs.declared.views.Access.{Access}
use Rattle.lot_scheme.specs.Traces.{GetTrace}
use Rattle.lot_locks.specs.declared.released.Released.{Released}
use Rattle.lot_locks.specs.Released.{IsFitting, FreeTrace}
use Rattle.lot_sync.specs.Traces.{NotifyTrace, Then}
use Rattle.lot_calls.specs.Traces.{GetAfterTrace}

-- one thread that waits on the condition is told to go on, if any, where this is so; else nobody is
abbrev pub TellTrace : Bool → ℕ → ℕ → List Access → Type 0
TellTrace true t c acts = (taken : ℕ) × NotifyTrace t c 1 taken acts
TellTrace false t c acts = acts ≡ []

-- the lock was let go, and then each of so many conditions from c on was told where this says so
abbrev pub LeaveTrace : (told : ℕ → Bool) → ℕ → ℕ → ℕ → ℕ → ℕ → List Access → Type 0
LeaveTrace told t l now c zero acts = (became : Released) × IsFitting became false now × FreeTrace t l became acts
LeaveTrace told t l now c (suc n) acts = Then (LeaveTrace told t l now c n) (TellTrace (told (c + n)) t (c + n)) acts

-- the lock was got, and left so
abbrev pub ChangeTrace : (told : ℕ → Bool) → ℕ → ℕ → ℕ → ℕ → ℕ → List Access → Type 0
ChangeTrace told t l now c n = Then (GetTrace t l) (LeaveTrace told t l now c n)

-- the lock was got, after so many waits on d, and left so
abbrev pub WhenTrace : (told : ℕ → Bool) → ℕ → ℕ → ℕ → ℕ → ℕ → ℕ → ℕ → List Access → Type 0
WhenTrace told t d count l now c n = Then (GetAfterTrace t d l now count) (LeaveTrace told t l now c n)
