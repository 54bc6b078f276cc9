-- How a thread stands, as its pass tells it: what the calls ask for.
use Rattle.std.specs.Prelude.{◌≡◌, ℕ, ◌≤◌, ◌⊎◌, false, slice_index, Some, None}
use Rattle.lot_order.specs.Order.{Keys, AllBelow}
use Rattle.lot_words.specs.declared.views.LockRootView.{LockRootView}
use Rattle.lot_words.specs.Rule.{no_root as no_lock_root}
use Rattle.lot_words.specs.World.{Holds}
use Rattle.lot_conds.specs.declared.views.CondRootView.{CondRootView}
use Rattle.lot_conds.specs.Rule.{no_root as no_cond_root}
use Rattle.lot_sems.specs.declared.views.SemRootView.{SemRootView}
use Rattle.lot_sems.specs.Rule.{no_root as no_sem_root}
use Rattle.lot_whole.specs.declared.views.LotPassView.{LotPassView}
use Rattle.lot_whole.specs.declared.views.LotRootView.{LotRootView}
use Rattle.lot_whole.specs.declared.views.LotRootView.TheVariants.{Lock, Cond, Sem}
use Rattle.lot_whole.specs.declared.views.Stand.TheVariants.{Idle, AtBed, AtRest}
use Rattle.lot_whole.specs.Family.{Which, away}
use Rattle.lot_whole.specs.Lot.{own_of}

module _ {V : Type 0} where
  -- the thread is queued nowhere, and no letter of its own is owed or lies
  abbrev pub IsUp : LotPassView V → Type 0
  IsUp p = (j : Which) → away V j (own_of V p j) ≡ false

  -- it is up, and wants, sweeps and seeks nothing
  pub record WantsNothing (p : LotPassView V) : Type 0 where
    pub up : IsUp p
    pub aim : p.locks.aim ≡ None
    pub sweeps : p.conds.sweeps ≡ None
    pub seeks : p.sems.seeks ≡ None

  -- and it stands at no condition: a pass between two calls of a lot
  abbrev pub IsIdle : LotPassView V → Type 0
  IsIdle p = WantsNothing p × (p.stand ≡ Idle)

  -- what it has: locks, and permits
  abbrev pub keys_of : LotPassView V → Keys
  keys_of p = record { locks = Holds p.locks; permits = slice_index p.sems.out }

  -- it may wait for the key k, so far as the order of keys asks: where it stands idle, all that it has lies below. Who
  -- wants, seeks or rests has shown it
  abbrev pub MayAsk : (ℕ → ℕ → Type 0) → LotPassView V → ℕ → Type 0
  MayAsk above p k = IsIdle p → AllBelow above (keys_of p) k

  -- the thread may take the lock l: it wants l, or nothing, or rests on a condition and had l before
  abbrev pub MayTake : LotPassView V → ℕ → Type 0
  MayTake p l = (IsUp p × (p.locks.aim ≡ Some l)) ⊎ (WantsNothing p × ((p.stand ≡ Idle) ⊎ ((c : ℕ) × (p.stand ≡ AtRest c l))))

  -- and may wait for it
  abbrev pub MayWant : (ℕ → ℕ → Type 0) → LotPassView V → ℕ → Type 0
  MayWant above p l = MayTake p l × MayAsk above p l

  -- it may let l go: it is idle, or at the bed of a condition with l; there it is queued, or even called already
  abbrev pub MayLetGo : LotPassView V → ℕ → Type 0
  MayLetGo p l = IsIdle p ⊎ ((p.locks.asleep ≡ false) × (p.locks.aim ≡ None) × ((c : ℕ) × (p.stand ≡ AtBed c l)))

  -- it may line up at l: it is up, and wants l
  abbrev pub MayLineUp : LotPassView V → ℕ → Type 0
  MayLineUp p l = IsUp p × (p.locks.aim ≡ Some l)

  -- it has lowered c's flag, and may sweep it
  abbrev pub MaySweep : LotPassView V → ℕ → Type 0
  MaySweep p c = (p.conds.out ≡ None) × (p.conds.sweeps ≡ Some c)

  -- it may take a permit of k: it seeks one, or is idle
  abbrev pub MayTakePermit : LotPassView V → ℕ → Type 0
  MayTakePermit p k = (IsUp p × (p.sems.seeks ≡ Some k)) ⊎ IsIdle p

  -- and may wait for one
  abbrev pub MayWantPermit : (ℕ → ℕ → Type 0) → LotPassView V → ℕ → Type 0
  MayWantPermit above p k = MayTakePermit p k × MayAsk above p k

  -- it may line up at k: it is up, and seeks a permit of k
  abbrev pub MaySeek : LotPassView V → ℕ → Type 0
  MaySeek p k = IsUp p × (p.sems.seeks ≡ Some k)

  -- it has a permit of k, and may give it back
  abbrev pub MayGive : LotPassView V → ℕ → Type 0
  MayGive p k = IsIdle p × (1 ≤ slice_index p.sems.out k)

-- ---- whose root it is
abbrev pub IsLockRoot : LotRootView → Type 0
IsLockRoot (Lock q) = Unit {0}
IsLockRoot _ = ⊥

abbrev pub IsCondRoot : LotRootView → Type 0
IsCondRoot (Cond q) = Unit {0}
IsCondRoot _ = ⊥

abbrev pub IsSemRoot : LotRootView → Type 0
IsSemRoot (Sem q) = Unit {0}
IsSemRoot _ = ⊥

-- what a root of the kind knows
abbrev pub as_lock : LotRootView → LockRootView
as_lock (Lock q) = q
as_lock _ = no_lock_root

abbrev pub as_cond : LotRootView → CondRootView
as_cond (Cond q) = q
as_cond _ = no_cond_root

abbrev pub as_sem : LotRootView → SemRootView
as_sem (Sem q) = q
as_sem _ = no_sem_root
