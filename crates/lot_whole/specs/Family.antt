-- The three kinds of key that a lot has, and what each kind says of words and rights: each statement about a lot is
-- made once, of a kind j.
use Rattle.std.specs.Prelude.{ℕ, ◌+◌, Bool, List, [], length, Option, is_some}
use mathlib.Core.Option as maybe
use Rattle.lot_core.specs.Model.{StateView}
use Rattle.lot_core.specs.Parts.{lock_part, condition_part, semaphore_part, IsLockEvent, IsCondEvent, IsSemaphoreEvent}
use Rattle.lot_events.specs.declared.events.Event.{Event}
use Rattle.lot_rights.specs.Rule.{Meaning}
use Rattle.lot_rights.specs.World.{Sizes, IsKeyOf}
use Rattle.lot_words.specs.declared.views.LockPassView.{LockPassView}
use Rattle.lot_words.specs.declared.views.LockRootView.{LockRootView}
use Rattle.lot_words.specs.declared.views.Size.{Size as LockSize}
use Rattle.lot_words.specs.CallersRule.{CallersRule}
use Rattle.lot_words.specs.Rule.{meaning as locks_meaning}
use Rattle.lot_conds.specs.declared.views.CondPassView.{CondPassView}
use Rattle.lot_conds.specs.declared.views.CondRootView.{CondRootView}
use Rattle.lot_conds.specs.declared.views.Size.{Size as CondSize}
use Rattle.lot_conds.specs.Rule.{meaning as conds_meaning}
use Rattle.lot_sems.specs.declared.views.SemPassView.{SemPassView}
use Rattle.lot_sems.specs.declared.views.SemRootView.{SemRootView}
use Rattle.lot_sems.specs.World.{Numbers}
use Rattle.lot_sems.specs.Rule.{meaning as sems_meaning}

-- locks, conditions, semaphores
pub data Which : Type 0 where
  lock : Which
  cond : Which
  sem : Which

-- how many threads, locks and conditions a lot has, and how many permits each semaphore has at the opening. The keys'
-- numbers follow one another: those of the locks, then those of the conditions, then those of the semaphores
pub record LotSize : Type 0 where
  pub threads : ℕ
  pub locks : ℕ
  pub conds : ℕ
  pub permits : List ℕ

-- the same, as a kind has it alone
abbrev pub lock_size : LotSize → LockSize
lock_size z = record { threads = z.threads; locks = z.locks }

abbrev pub cond_size : LotSize → CondSize
cond_size z = record { threads = z.threads; locks = z.locks; conds = z.conds }

abbrev pub sem_size : LotSize → Numbers
sem_size z = record { threads = z.threads; first_sem = z.locks + z.conds; permits = z.permits }

abbrev pub sizes_in : LotSize → Which → Sizes
sizes_in z lock = record { threads = z.threads; first = 0; keys = z.locks }
sizes_in z cond = record { threads = z.threads; first = z.locks; keys = z.conds }
sizes_in z sem = record { threads = z.threads; first = z.locks + z.conds; keys = length z.permits }

-- how many keys there are of all kinds
abbrev pub key_count : LotSize → ℕ
key_count z = z.locks + z.conds + length z.permits

-- c is the number of a key of the kind
abbrev pub IsKeyIn : LotSize → Which → ℕ → Type 0
IsKeyIn z j c = IsKeyOf (sizes_in z j) c

-- ---- what a kind has for a slot, a pass and a root
abbrev pub SlotOf : Type 0 → Which → Type 0
SlotOf V lock = Option V
SlotOf V cond = Unit {0}
SlotOf V sem = Unit {0}

abbrev pub PassIn : Type 0 → Which → Type 0
PassIn V lock = LockPassView V
PassIn V cond = CondPassView
PassIn V sem = SemPassView

abbrev pub RootIn : Which → Type 0
RootIn lock = LockRootView
RootIn cond = CondRootView
RootIn sem = SemRootView

-- the thread is away in the kind: it was queued there, and has not collected its letter
abbrev pub away : (V : Type 0) (j : Which) → PassIn V j → Bool
away V lock p = p.asleep
away V cond p = is_some p.out
away V sem p = p.asleep

-- the slots are those of the locks
abbrev pub homes_in : {V : Type 0} (j : Which) → List (maybe.Option (Option V)) → List (maybe.Option (SlotOf V j))
homes_in lock hs = hs
homes_in cond hs = []
homes_in sem hs = []

-- ---- what a kind is
module _ {V Part : Type 0} (rule : CallersRule V Part) (z : LotSize) (xs : List V) where
  abbrev pub meaning_of : (j : Which) → Meaning (SlotOf V j) (PassIn V j) (RootIn j)
  meaning_of lock = locks_meaning rule (lock_size z) xs
  meaning_of cond = conds_meaning (cond_size z)
  meaning_of sem = sems_meaning (sem_size z)

  -- the part of the model's state that its words tell of
  abbrev pub part_in : (j : Which) → StateView → (meaning_of j).Part
  part_in lock s = lock_part s
  part_in cond s = condition_part s
  part_in sem s = semaphore_part s

-- the event is one of the kind
abbrev pub IsEventIn : Which → Event → Type 0
IsEventIn lock e = IsLockEvent e
IsEventIn cond e = IsCondEvent e
IsEventIn sem e = IsSemaphoreEvent e

-- a family with one of its values changed
abbrev pub dput : {X : Which → Type 0} (k : Which) → X k → ((j : Which) → X j) → (j : Which) → X j
dput lock x f lock = x
dput lock x f cond = f cond
dput lock x f sem = f sem
dput cond x f lock = f lock
dput cond x f cond = x
dput cond x f sem = f sem
dput sem x f lock = f lock
dput sem x f cond = f cond
dput sem x f sem = x
