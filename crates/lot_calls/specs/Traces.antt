-- Traces: which accesses a call made with the pass of its thread t, the oldest first. l is a lock, c a condition; now
-- is the moment of the unlocks.
use Rattle.std.specs.Prelude.{◌≡◌, ℕ, zero, suc, ◌<◌, ◌++◌, false, List, [], ◌⊎◌}
use Rattle.lot_rights.specs.declared.views.Access.{Access}
use Rattle.lot_scheme.specs.Traces.{GetTrace}
use Rattle.lot_locks.specs.declared.released.Released.{Released}
use Rattle.lot_locks.specs.Released.{IsFitting, FreeTrace}
use Rattle.lot_sync.specs.Traces.{Then, WaitedTrace}

-- a visit of a lock: it was got, and let go
pub record VisitTrace (t l now : ℕ) (acts : List Access) : Type 0 where
  pub get : List Access
  pub free : List Access
  pub became : Released
  pub fits : IsFitting became false now
  pub got : GetTrace t l get
  pub freed : FreeTrace t l became free
  pub is : acts ≡ get ++ free

-- a visit of two locks: l was got, m was visited, and l was let go
pub record NestedTrace (t l m now : ℕ) (acts : List Access) : Type 0 where
  pub get : List Access
  pub inner : List Access
  pub free : List Access
  pub became : Released
  pub fits : IsFitting became false now
  pub got : GetTrace t l get
  pub visited : VisitTrace t m now inner
  pub freed : FreeTrace t l became free
  pub is : acts ≡ get ++ (inner ++ free)

-- a visit of two locks, of which the one with the lower number was got first
abbrev pub BothTrace : ℕ → ℕ → ℕ → ℕ → List Access → Type 0
BothTrace t l m now acts = ((l < m) × NestedTrace t l m now acts) ⊎ ((m < l) × NestedTrace t m l now acts)

-- so many waits on a condition with a lock, one after the other
abbrev pub WaitsTrace : ℕ → ℕ → ℕ → ℕ → ℕ → List Access → Type 0
WaitsTrace t c l now zero acts = acts ≡ []
WaitsTrace t c l now (suc n) acts = Then (WaitsTrace t c l now n) (WaitedTrace t c l now) acts

-- a lock was got, and then so many waits were made with it
abbrev pub GetAfterTrace : ℕ → ℕ → ℕ → ℕ → ℕ → List Access → Type 0
GetAfterTrace t c l now n = Then (GetTrace t l) (WaitsTrace t c l now n)
