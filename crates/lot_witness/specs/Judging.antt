-- What it is that a run of the model saw something, and where it did not.
use Rattle.std.specs.Prelude.{◌≡◌, ◌≢◌, ℕ, ◌+◌, List, [], ◌∷◌, map, take, length, slice_get, Some, Result, Ok, Err}
use Rattle.lot_events.specs.declared.events.Event.{Event}
use Rattle.lot_core.specs.Model.{StateView, opening_with}
use Rattle.lot_core.specs.Steps.{Allowed, after, after_all, seen}
use Rattle.lot_core.specs.Limits.{Limits}
use Rattle.lot_core.specs.State.{TakesMemory, state_of}
use Rattle.lot_core.specs.declared.state.State.{State}
use Rattle.lot_witness.specs.declared.witness.Sighting.{Sighting}
use Rattle.lot_witness.specs.declared.judging.WitnessFault.{WitnessFault}
use Rattle.lot_witness.specs.declared.judging.WitnessFault.TheVariants.{BadLimits, NoMemory, NotAllowed, SawOtherwise}

-- the events alone
abbrev pub events_of : List Sighting → List Event
events_of = map (λ x. x.event)

-- a run from s, in which each event saw what is said of it
abbrev pub RunSaw : StateView → List Sighting → Type 0
RunSaw s [] = Unit {0}
RunSaw s (x ∷ xs) = Allowed s x.event × (seen s x.event ≡ x.saw) × RunSaw (after s x.event) xs

-- the events before place i are such a run from s, and in the state that it leaves P holds of the next
abbrev pub StopsAt : StateView → List Sighting → ℕ → (StateView → Sighting → Type 0) → Type 0
StopsAt s xs i P =
    RunSaw s (take i xs) × ((x : Sighting) × (slice_get xs i ≡ Some x) × P (after_all s (events_of (take i xs))) x)

-- event `number`, counted from 1, is the first of which that holds
abbrev pub FirstToFail : StateView → List Sighting → ℕ → (StateView → Sighting → Type 0) → Type 0
FirstToFail s xs number P = (i : ℕ) × (number ≡ i + 1) × StopsAt s xs i P

abbrev pub IsNotAllowed : StateView → Sighting → Type 0
IsNotAllowed s x = ¬ Allowed s x.event

abbrev pub SeesOtherwise : StateView → Sighting → Type 0
SeesOtherwise s x = Allowed s x.event × (seen s x.event ≢ x.saw)

abbrev pub LacksMemory : StateView → Sighting → Type 0
LacksMemory s x = Allowed s x.event × TakesMemory s x.event

-- what a fault says of a run from s
abbrev pub IsFaultIn : StateView → List Sighting → WitnessFault → Type 0
IsFaultIn s xs (NotAllowed number) = FirstToFail s xs number IsNotAllowed
IsFaultIn s xs (SawOtherwise number) = FirstToFail s xs number SeesOtherwise
IsFaultIn s xs NoMemory = (i : ℕ) × StopsAt s xs i LacksMemory
IsFaultIn s xs BadLimits = ⊥

-- what judging answers, where the opening has these numbers
abbrev pub Judges : ℕ → ℕ → ℕ → List ℕ → List Sighting → Result State WitnessFault → Type 0
Judges threads locks conds permits xs (Ok r) =
    let s = opening_with threads locks conds permits in
    Limits threads locks conds (length permits) × RunSaw s xs × (state_of r ≡ after_all s (events_of xs))
Judges threads locks conds permits xs (Err BadLimits) = ¬ Limits threads locks conds (length permits)
Judges threads locks conds permits xs (Err NoMemory) = Limits threads locks conds (length permits)
Judges threads locks conds permits xs (Err (NotAllowed number)) =
    Limits threads locks conds (length permits)
    × FirstToFail (opening_with threads locks conds permits) xs number IsNotAllowed
Judges threads locks conds permits xs (Err (SawOtherwise number)) =
    Limits threads locks conds (length permits)
    × FirstToFail (opening_with threads locks conds permits) xs number SeesOtherwise
