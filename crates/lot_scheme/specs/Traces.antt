-- Traces: which accesses a call made, the oldest first. t is a thread, l a lock, c a condition, k a semaphore.
use Rattle.std.specs.Prelude.{◌≡◌, ◌≢◌, ℕ, zero, suc, ◌%◌, ◌⊎◌, ◌++◌, Bool, true, false, List, [], ◌∷◌, Some, None}
use Rattle.std.specs.List.{All}
use Rattle.lot_events.specs.declared.events.Event.TheVariants.{Try, Take, Mark, Park, Look, Lower, Sweep}
use Rattle.lot_events.specs.declared.events.Event.TheVariants.{SemTake, SemMark, SemPark, SemFree}
use Rattle.lot_events.specs.declared.events.Seen.TheVariants.{Bool as Saw, Done, Count}
use Rattle.lot_rights.specs.declared.views.Access.{Access}
use Rattle.lot_rights.specs.declared.views.Access.TheVariants.{Makes, Collects, Finds}
use Rattle.lot_sems.specs.Calls.{IsAnyLeft, IsUnmarked}

-- ---- locks
-- an access of a thread that seeks the lock and has not got it yet
abbrev pub IsSeek : ℕ → ℕ → Access → Type 0
IsSeek t l (Makes (Take u k) (Saw false)) = (u ≡ t) × (k ≡ l)
IsSeek t l (Makes (Mark u k) Done) = (u ≡ t) × (k ≡ l)
IsSeek t l (Makes (Park u k) saw) = (u ≡ t) × (k ≡ l)
IsSeek t l (Finds u k word) = (u ≡ t) × (k ≡ l)
IsSeek t l (Collects u None) = u ≡ t
IsSeek t l (Collects u (Some zero)) = u ≡ t
IsSeek t l _ = ⊥

-- the access by which it gets the lock: a Take, or the letter of a handoff
abbrev pub IsGot : ℕ → ℕ → Access → Type 0
IsGot t l (Makes (Take u k) (Saw true)) = (u ≡ t) × (k ≡ l)
IsGot t l (Collects u (Some (suc zero))) = u ≡ t
IsGot t l _ = ⊥

-- the lock was sought, and got
abbrev pub GetTrace : ℕ → ℕ → List Access → Type 0
GetTrace t l acts = (front : List Access) × (last : Access) × All (IsSeek t l) front × IsGot t l last × (acts ≡ front ++ last ∷ [])

-- one try, and whether it got the lock: a first access that gets it, or one that finds the word not 0 and then a Try
abbrev pub TryTrace : ℕ → ℕ → Bool → List Access → Type 0
TryTrace t l got acts =
    ((got ≡ true) × (acts ≡ Makes (Take t l) (Saw true) ∷ []))
    ⊎ ((word : ℕ) × (word ≢ 0) × (acts ≡ Finds t l word ∷ Makes (Try t l) (Saw got) ∷ []))

-- ---- conditions
-- a look for the letter of a wait, in vain
abbrev pub IsVain : ℕ → Access → Type 0
IsVain t (Collects u None) = u ≡ t
IsVain t _ = ⊥

abbrev pub trace_of_all : ℕ → ℕ → ℕ → List Access
trace_of_all t c taken = Makes (Look t c) (Saw true) ∷ Makes (Lower t c) Done ∷ Makes (Sweep t c) (Count taken) ∷ []

-- a notification that finds the flag clear
abbrev pub trace_of_nobody : ℕ → ℕ → List Access
trace_of_nobody t c = Makes (Look t c) (Saw false) ∷ []

-- ---- semaphores
-- an access of a thread that seeks a permit of k and has not got it yet
abbrev pub IsPermitSeek : ℕ → ℕ → Access → Type 0
IsPermitSeek t k (Makes (SemTake u n) (Saw false)) = (u ≡ t) × (n ≡ k)
IsPermitSeek t k (Makes (SemMark u n) Done) = (u ≡ t) × (n ≡ k)
IsPermitSeek t k (Makes (SemPark u n) saw) = (u ≡ t) × (n ≡ k)
IsPermitSeek t k (Finds u n word) = (u ≡ t) × (n ≡ k)
IsPermitSeek t k (Collects u None) = u ≡ t
IsPermitSeek t k (Collects u (Some zero)) = u ≡ t
IsPermitSeek t k _ = ⊥

-- a look that found a permit, and then an exchange of the word that was seen; or one that found another word
abbrev pub TookTrace : ℕ → ℕ → List Access → Type 0
TookTrace t k acts = (word : ℕ) × IsAnyLeft word × (acts ≡ Finds t k word ∷ Makes (SemTake t k) (Saw true) ∷ [])

abbrev pub BusyTrace : ℕ → ℕ → List Access → Type 0
BusyTrace t k acts = (seen found : ℕ) × IsAnyLeft seen × (found ≢ seen) × (acts ≡ Finds t k seen ∷ Finds t k found ∷ [])

-- a look that found nobody marked, and then an exchange of the word that was seen, by which a permit was given back
abbrev pub FreedTrace : ℕ → ℕ → List Access → Type 0
FreedTrace t k acts = (word : ℕ) × IsUnmarked word × (acts ≡ Finds t k word ∷ Makes (SemFree t k) (Saw true) ∷ [])

-- a look that found somebody marked; or one that found nobody marked, and then an exchange that found another word
abbrev pub UnfreedTrace : ℕ → ℕ → List Access → Type 0
UnfreedTrace t k acts =
    ((word : ℕ) × (word % 2 ≡ 1) × (acts ≡ Finds t k word ∷ []))
    ⊎ ((seen found : ℕ) × IsUnmarked seen × (found ≢ seen) × (acts ≡ Finds t k seen ∷ Finds t k found ∷ []))

-- a permit was sought, and got from the word that a look found
abbrev pub GetPermitTrace : ℕ → ℕ → List Access → Type 0
GetPermitTrace t k acts =
    (front : List Access) × All (IsPermitSeek t k) front
    × ((word : ℕ) × IsAnyLeft word × (acts ≡ front ++ Finds t k word ∷ Makes (SemTake t k) (Saw true) ∷ []))
