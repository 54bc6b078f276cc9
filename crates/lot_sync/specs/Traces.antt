-- Traces: which accesses a call made with the pass of its thread t, the oldest first. l is a lock, c a condition, k a
-- semaphore.
use Rattle.std.specs.Prelude.{◌≡◌, ℕ, ◌<◌, ◌⊎◌, ◌++◌, Bool, false, List, [], ◌∷◌}
use Rattle.lot_events.specs.declared.events.Event.TheVariants.{Free, Look}
use Rattle.lot_events.specs.declared.events.Seen.TheVariants.{Bool as Saw}
use Rattle.lot_rights.specs.declared.views.Access.{Access}
use Rattle.lot_rights.specs.declared.views.Access.TheVariants.{Makes, Finds}
use Rattle.lot_scheme.specs.Traces.{trace_of_all, trace_of_nobody, TookTrace, BusyTrace}
use Rattle.lot_locks.specs.declared.released.Released.{Released}
use Rattle.lot_locks.specs.Released.{IsFitting}
use Rattle.lot_waits.specs.Notifying.{CallTrace}
use Rattle.lot_waits.specs.Waiting.{WaitTrace}
use Rattle.lot_permits.specs.declared.permit.Tried.{Tried}
use Rattle.lot_permits.specs.declared.permit.Tried.TheVariants.{Got, Empty, Busy}

-- these accesses were made before, and those after with such a trace more
abbrev pub Adds : List Access → (List Access → Type 0) → List Access → Type 0
Adds before trace after = (did : List Access) × (after ≡ before ++ did) × trace did

-- such a trace, and then another
abbrev pub Then : (List Access → Type 0) → (List Access → Type 0) → List Access → Type 0
Then first second acts = (front back : List Access) × first front × second back × (acts ≡ front ++ back)

-- ---- locks
-- a lock was let go where nobody was parked, or was not
abbrev pub UnparkedTrace : ℕ → ℕ → Bool → List Access → Type 0
UnparkedTrace t l freed acts = acts ≡ Makes (Free t l) (Saw freed) ∷ []

-- ---- conditions
-- a whole wait, whose unlock ended as one that is not asked to be fair may end at this moment
abbrev pub WaitedTrace : ℕ → ℕ → ℕ → ℕ → List Access → Type 0
WaitedTrace t c l now acts = (became : Released) × IsFitting became false now × WaitTrace t c l became acts

-- a look at the flag, which saw whether somebody may wait
abbrev pub LookTrace : ℕ → ℕ → Bool → List Access → Type 0
LookTrace t c has acts = acts ≡ Makes (Look t c) (Saw has) ∷ []

-- a look that found the flag clear, and nobody was taken
abbrev pub NobodyTrace : ℕ → ℕ → ℕ → List Access → Type 0
NobodyTrace t c taken acts = (taken ≡ 0) × (acts ≡ trace_of_nobody t c)

-- a notification of n threads, which took so many
abbrev pub NotifyTrace : ℕ → ℕ → ℕ → ℕ → List Access → Type 0
NotifyTrace t c n taken acts = NobodyTrace t c taken acts ⊎ CallTrace t c n taken acts

-- a notification of all, which were so many
abbrev pub NotifyAllTrace : ℕ → ℕ → ℕ → List Access → Type 0
NotifyAllTrace t c taken acts = NobodyTrace t c taken acts ⊎ (acts ≡ trace_of_all t c taken)

-- ---- semaphores
-- a try to get a permit, by what came of it
abbrev pub TryPermitTrace : {A B : Type 0} → ℕ → ℕ → Tried A B → List Access → Type 0
TryPermitTrace t k (Got permit) acts = TookTrace t k acts
TryPermitTrace t k Empty acts = (word : ℕ) × (word < 2) × (acts ≡ Finds t k word ∷ [])
TryPermitTrace t k Busy acts = BusyTrace t k acts
