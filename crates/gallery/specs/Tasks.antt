-- A pool of tasks: what lies there, what workers have in hand, and how often each was done.
use Rattle.std.specs.Prelude.{◌≡◌, ◌≢◌, ℕ, ◌+◌, ◌<◌, ◌==◌, nat_lt, Bool, if◌then◌else◌, Option, MatchOption, List}
use Rattle.std.specs.Prelude.{[], ◌∷◌, length, map, slice_index}
use Rattle.std.specs.List.{list_all, sum_by}
use Rattle.lot_sync.specs.Lot.{LotView, PassView, OwnsNone, HasShape, HasSeen}
use Rattle.lot_calls.specs.Workers.{ComesBack}
use Rattle.gallery.specs.Parts.{OthersKeep}
use Rattle.gallery.specs.declared.tasks.Pool.{Pool}
use Rattle.gallery.specs.declared.tasks.TheConstants.{TASKS, WORKERS, POOL}

-- how often a number stands in a list
abbrev pub count : ℕ → List ℕ → ℕ
count task tasks = sum_by (λ other. if other == task then 1 else 0) tasks

-- each number below this stands there once, and no other does
abbrev pub AllBelow : ℕ → List ℕ → Type 0
AllBelow end tasks = (task : ℕ) → count task tasks ≡ (if nat_lt task end then 1 else 0)

-- which task the worker has in hand
abbrev pub in_hand_of : ℕ → Pool → ℕ
in_hand_of thread pool = slice_index pool.in_hand thread

-- how often the task was done
abbrev pub times_of : ℕ → Pool → ℕ
times_of task pool = slice_index pool.times.items task

-- each task lies there, or some worker has it in hand, or it was done: just one of these, and once
pub record HasEachOnce (pool : Pool) : Type 0 where
  pub places : length pool.in_hand ≡ WORKERS
  pub counts : length pool.times.items ≡ TASKS
  pub once : (task : ℕ) → task < TASKS → count task pool.tasks.items + count task pool.in_hand + times_of task pool ≡ 1

-- all tasks lie there, and none was done
pub record IsNew (pool : Pool) : Type 0 where
  pub lie : AllBelow TASKS pool.tasks.items
  pub none : (task : ℕ) → task < TASKS → times_of task pool ≡ 0

-- each task was done once
abbrev pub AllDone : Pool → Type 0
AllDone pool = (task : ℕ) → task < TASKS → times_of task pool ≡ 1

-- whether each task was done
abbrev pub are_done : List ℕ → Bool
are_done times = list_all (λ number. nat_lt 0 number) times

-- the worker took the oldest task, and has it in hand; or none lay there, and nothing changed
pub record Takes (thread : ℕ) (before : Pool) (task : Option ℕ) (after : Pool) : Type 0 where
  pub whole : HasEachOnce after
  pub oldest : MatchOption task ((before.tasks.items ≡ []) × (after.tasks.items ≡ []) × (after.in_hand ≡ before.in_hand))
      (λ oldest. (before.tasks.items ≡ oldest ∷ after.tasks.items) × (in_hand_of thread after ≡ oldest))
  pub times : after.times.items ≡ before.times.items
  pub others : OthersKeep in_hand_of thread before after

-- the task that the worker had in hand was done once more, and no other
pub record Finishes (thread : ℕ) (before after : Pool) : Type 0 where
  pub whole : HasEachOnce after
  pub same : after.tasks.items ≡ before.tasks.items
  pub none : in_hand_of thread after ≡ TASKS
  pub mine : (task : ℕ) → task < TASKS → task ≡ in_hand_of thread before → times_of task after ≡ times_of task before + 1
  pub others_times : (task : ℕ) → task ≢ in_hand_of thread before → times_of task after ≡ times_of task before
  pub others : OthersKeep in_hand_of thread before after

-- a worker's pass between two calls, and its lot
pub record IsWorker (lot : LotView) (pass : PassView Pool) : Type 0 where
  pub sizes : (lot.locks ≡ 1) × (lot.conds ≡ 1)
  pub is_thread : pass.thread < WORKERS
  pub free : OwnsNone pass
  pub shape : HasShape lot pass

-- its thread has this task in hand
abbrev pub HasInHand : PassView Pool → ℕ → Type 0
HasInHand pass task = slice_index (map (in_hand_of pass.thread) pass.seen) POOL ≡ task

-- the worker came back, and has seen that each task was done once
pub record HasWaited (lot : LotView) (before after : PassView Pool) : Type 0 where
  pub back : ComesBack lot before after
  pub done : (pool : Pool) → HasSeen after POOL pool → AllDone pool
