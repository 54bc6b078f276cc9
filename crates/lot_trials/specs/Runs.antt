-- What a caller concludes when its lot is closed: all that was done with the lot is one run of the model.
use Rattle.std.specs.Prelude.{◌≡◌, ℕ, ◌<◌, ◌++◌, true, List, ◌∷◌, map}
use Rattle.std.specs.List.{Any}
use Rattle.lot_core.specs.Model.{opening_with}
use Rattle.lot_core.specs.Steps.{Run, after_all}
use Rattle.lot_core.specs.Sound.{IsSound}
use Rattle.lot_events.specs.declared.events.Event.{Event}
use Rattle.lot_events.specs.declared.events.Event.TheVariants.{Free, Pass}
use Rattle.lot_events.specs.declared.events.Seen.{Seen}
use Rattle.lot_events.specs.declared.events.Seen.TheVariants.{Bool as Saw, Sleeper}
use Rattle.lot_rights.specs.declared.views.Access.{Access}
use Rattle.lot_rights.specs.declared.views.Access.TheVariants.{Makes}
use Rattle.lot_whole.specs.Closing.{IsQuiet}
use Rattle.lot_sync.specs.Lot.{PassView, LotNames, OwnsNone}

-- the thread let a lock go by this event: nobody was parked, or the lock was passed on
abbrev pub LetsGo : ℕ → Event → Seen → Type 0
LetsGo t (Free u l) (Saw true) = u ≡ t
LetsGo t (Pass u l fair more) (Sleeper first) = u ≡ t
LetsGo t _ _ = ⊥

-- ---- passes
module _ {V : Type 0} where
  -- with the pass a lock was let go, after these accesses and before those
  pub record HasReleased (p : PassView V) : Type 0 where
    pub front : List Access
    pub back : List Access
    pub event : Event
    pub saw : Seen
    pub going : LetsGo p.thread event saw
    pub made : p.made ≡ front ++ Makes event saw ∷ back

  -- a pass of the thread that owns no lock and holds no permit, after it has let a lock go
  pub record HasTurned (thread : ℕ) (p : PassView V) : Type 0 where
    pub same : p.thread ≡ thread
    pub free : OwnsNone p
    pub released : HasReleased p

-- ---- the run
-- by one of these events, with what each saw
abbrev pub HasLetGo : List (Event × Seen) → ℕ → Type 0
HasLetGo events t = Any (λ (x : Event × Seen). LetsGo t x.0 x.1) events

-- the events alone
abbrev pub events_of : List (Event × Seen) → List Event
events_of events = map (λ (x : Event × Seen). x.0) events

-- These events were made with the lot of this name: they are a run of the model from its opening, to a state that is
-- sound and in which nobody has a lock or waits, and in them each of its threads let a lock go
pub record IsWholeRun {V : Type 0} (names : LotNames V) (events : List (Event × Seen)) : Type 0 where
  pub run : Run (opening_with names.threads names.locks names.conds names.permits) (events_of events)
  pub sound : IsSound (after_all (opening_with names.threads names.locks names.conds names.permits) (events_of events))
  pub quiet : IsQuiet (after_all (opening_with names.threads names.locks names.conds names.permits) (events_of events))
  pub let_go : (t : ℕ) → t < names.threads → HasLetGo events t

abbrev pub HasWholeRun : {V : Type 0} → LotNames V → Type 0
HasWholeRun names = (events : List (Event × Seen)) × IsWholeRun names events
