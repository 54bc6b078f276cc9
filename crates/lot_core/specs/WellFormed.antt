-- A state names only what there is: threads of its own, and its own locks, conditions and semaphores.
use Rattle.std.specs.Prelude.{◌≡◌, ℕ, ◌≤◌, true}
use Rattle.lot_events.specs.declared.events.Point.{Point}
use Rattle.lot_events.specs.declared.events.Point.TheVariants.{Calm, Wants, Bed, Rest, Sweeps, Seeks}
use Rattle.lot_core.specs.Model.{StateView}
use Rattle.lot_core.specs.Steps.{IsThread, IsLock, IsCond, IsSemaphore}

-- t may stand at this point: it is calm, or it is a thread and what the point names is there
abbrev pub MayStand : StateView → ℕ → Point → Type 0
MayStand s t Calm = Unit {0}
MayStand s t (Wants l) = IsThread s t × IsLock s l
MayStand s t (Bed c l) = IsThread s t × IsCond s c × IsLock s l
MayStand s t (Rest c l) = IsThread s t × IsCond s c × IsLock s l
MayStand s t (Sweeps c) = IsThread s t × IsCond s c
MayStand s t (Seeks k) = IsThread s t × IsSemaphore s k

-- who has a lock or a permit is a thread, and that is a lock or a semaphore; and each thread may stand where it does
pub record IsWellFormed (s : StateView) : Type 0 where
  pub owners : (l t : ℕ) → s.locks.has l t ≡ true → IsThread s t × IsLock s l
  pub takers : (k t : ℕ) → 1 ≤ s.sems.out k t → IsThread s t × IsSemaphore s k
  pub points : (t : ℕ) → MayStand s t (s.point t)
