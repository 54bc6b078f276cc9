-- What a `State` stands for, and what its calls answer.
use Rattle.std.specs.Prelude.{take, slice_get, Option, Some, None, is_some, ◌≡◌, ◌==◌, ◌&&◌, ℕ, Bool, true, false, List, [], length, Result}
use Rattle.std.specs.Prelude.{Ok, Err}
use Rattle.lot_events.specs.declared.events.Point.{Point}
use Rattle.lot_events.specs.declared.events.Point.TheVariants.{Calm}
use Rattle.lot_core.specs.declared.state.State.{State}
use Rattle.lot_core.specs.declared.state.CoreFault.{CoreFault}
use Rattle.lot_core.specs.declared.state.CoreFault.TheVariants.{BadLimits, NoMemory, NotEnabled}
use Rattle.lot_events.specs.declared.events.Event.{Event}
use Rattle.lot_events.specs.declared.events.Event.TheVariants.{Park, Enlist, SemPark}
use Rattle.lot_events.specs.declared.events.Seen.{Seen}
use Rattle.lot_core.specs.Limits.{Limits}
use Rattle.lot_core.specs.Model.{StateView, put, opening_with}
use Rattle.lot_core.specs.Steps.{Allowed, Run, after, after_all, seen, none_left}
use Rattle.lot_core.specs.Rows.{told, row, row_from}
use Rattle.lot_core.specs.Lines.{line_of}
use Rattle.lot_core.specs.Semaphores.{semaphores_of, permits_of, sem_count}

-- what the owner of a lock says of thread t: it has the lock
abbrev pub owns : Option ℕ → ℕ → Bool
owns None t = false
owns (Some u) t = t == u

-- the state of the model that a `State` stands for
abbrev pub state_of : State → StateView
state_of s =
    record {
      threads = s.threads;
      lock_count = s.locks;
      cond_count = s.conds;
      sem_count = sem_count s.sems;
      permits = permits_of s.sems;
      locks = record {
        held = told is_some (row None s.owners.items);
        parked = row false s.parked.items;
        line = line_of s.lock_lines;
        has = told owns (row None s.owners.items);
      };
      conds = record {
        flag = row_from false s.locks s.flags.items;
        line = line_of s.cond_lines;
      };
      sems = semaphores_of s.sems;
      point = row Calm s.points.items;
    }

-- single changes of a state
abbrev pub with_point : StateView → ℕ → Point → StateView
with_point w t p = record w { point = put w.point t p }

abbrev pub with_owner : StateView → ℕ → Option ℕ → StateView
with_owner w l o = record w { locks = record w.locks { held = put w.locks.held l (is_some o); has = put w.locks.has l (owns o) } }

abbrev pub with_parked : StateView → ℕ → Bool → StateView
with_parked w l parked = record w { locks = record w.locks { parked = put w.locks.parked l parked } }

abbrev pub with_lock_line : StateView → ℕ → List ℕ → StateView
with_lock_line w l line = record w { locks = record w.locks { line = put w.locks.line l line } }

abbrev pub with_flag : StateView → ℕ → Bool → StateView
with_flag w c flag = record w { conds = record w.conds { flag = put w.conds.flag c flag } }

abbrev pub with_cond_line : StateView → ℕ → List ℕ → StateView
with_cond_line w c line = record w { conds = record w.conds { line = put w.conds.line c line } }

-- an event for which memory may be wanted: its thread is queued
abbrev pub TakesMemory : StateView → Event → Type 0
TakesMemory s (Park t l) = (s.locks.held l && s.locks.parked l) ≡ true
TakesMemory s (Enlist t c l) = Unit {0}
TakesMemory s (SemPark t k) = (none_left s.sems k && s.sems.parked k) ≡ true
TakesMemory s _ = ⊥

-- what a call answers to an event in state s, where r is the state after it
abbrev pub Answers : StateView → Event → Result Seen CoreFault → StateView → Type 0
Answers s e (Ok saw) r = Allowed s e × (r ≡ after s e) × (saw ≡ seen s e)
Answers s e (Err NotEnabled) r = (¬ Allowed s e) × (r ≡ s)
Answers s e (Err NoMemory) r = Allowed s e × TakesMemory s e × (r ≡ s)
Answers s e (Err BadLimits) r = ⊥

-- what opening a state with these numbers, and the opening numbers of its semaphores, answers
abbrev pub OpensWith : ℕ → ℕ → ℕ → List ℕ → Result State CoreFault → Type 0
OpensWith threads locks conds permits (Ok s) =
    Limits threads locks conds (length permits) × (state_of s ≡ opening_with threads locks conds permits)
OpensWith threads locks conds permits (Err BadLimits) = ¬ Limits threads locks conds (length permits)
OpensWith threads locks conds permits (Err NoMemory) = Limits threads locks conds (length permits)
OpensWith threads locks conds permits (Err NotEnabled) = ⊥

-- the same without semaphores
abbrev pub Opens : ℕ → ℕ → ℕ → Result State CoreFault → Type 0
Opens threads locks conds = OpensWith threads locks conds []

-- of these events those before number i are a run from s to r, and event number i is refused there
abbrev pub StopsAt : StateView → List Event → ℕ → CoreFault → StateView → Type 0
StopsAt s events i fault r =
    Run s (take i events) × (r ≡ after_all s (take i events))
    × ((e : Event) × (slice_get events i ≡ Some e) × Answers r e (Err fault) r)
