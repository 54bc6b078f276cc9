-- Who waits for whom, and who goes on.
use Rattle.std.specs.Prelude.{◌≡◌, ℕ, ◌≤◌, ◌⊎◌, false, List, [], ◌∷◌}
use Rattle.std.specs.List.{Contains}
use Rattle.lot_events.specs.declared.events.Point.TheVariants.{Calm, Wants, Bed, Rest, Sweeps, Seeks}
use Rattle.lot_core.specs.Model.{StateView}
use Rattle.lot_events.specs.declared.events.Event.TheVariants.{Take, SemTake}
use Rattle.lot_core.specs.Steps.{IsThread, IsTrying, IsSeeking, Allowed}
use Rattle.lot_order.specs.Order.{held_by, HasKey, Rises, IsOrdered}

abbrev pub Has : StateView → ℕ → ℕ → Type 0
Has s t k = HasKey (held_by s t) k

-- t can't go on without k: it wants this lock, seeks a permit of it, or was notified and wants the lock back
abbrev pub Needs : StateView → ℕ → ℕ → Type 0
Needs s t k =
    (s.point t ≡ Wants k) ⊎ (s.point t ≡ Seeks k)
    ⊎ ((c : ℕ) × (s.point t ≡ Rest c k) × (¬ Contains (s.conds.line c) t))

-- t needs a key that u has
abbrev pub WaitsFor : StateView → ℕ → ℕ → Type 0
WaitsFor s t u = (k : ℕ) × Needs s t k × Has s u k

-- t waits for the first of the others, each for the next, and the last for u
abbrev pub Leads : StateView → ℕ → List ℕ → ℕ → Type 0
Leads s t [] u = WaitsFor s t u
Leads s t (v ∷ others) u = WaitsFor s t v × Leads s v others u

-- t is up, outside all wait queues, its next event is allowed, and k is there for it: an unheld lock, or a permit that
-- is left
abbrev pub MayGet : StateView → ℕ → ℕ → Type 0
MayGet s t k =
    (IsTrying s t k × Allowed s (Take t k) × (s.locks.held k ≡ false))
    ⊎ (IsSeeking s t k × Allowed s (SemTake t k) × (1 ≤ s.sems.left k))

-- t is a thread that waits for nothing
abbrev pub IsBusy : StateView → ℕ → Type 0
IsBusy s t =
    IsThread s t × ((s.point t ≡ Calm) ⊎ ((c : ℕ) × (s.point t ≡ Sweeps c)) ⊎ ((c l : ℕ) × (s.point t ≡ Bed c l)))

-- t goes on with k: it may get k, or has it and is busy
abbrev pub GoesOn : StateView → ℕ → ℕ → Type 0
GoesOn s t k = MayGet s t k ⊎ (Has s t k × IsBusy s t)

-- t has k, with which it may wait for a notification of some condition, and sleeps until one comes
abbrev pub AwaitsNotice : (ℕ → ℕ → Type 0) → StateView → ℕ → ℕ → Type 0
AwaitsNotice above s t k = Has s t k × ((c l : ℕ) × (s.point t ≡ Rest c l) × Contains (s.conds.line c) t × above k c)

-- t seeks a permit of k, which was opened with none
abbrev pub SeeksInVain : StateView → ℕ → ℕ → Type 0
SeeksInVain s t k = (s.point t ≡ Seeks k) × (s.permits k ≡ 0)

-- from key j one comes to key k: the first of the others has j and needs a key from which one comes there by the rest
abbrev pub ComesTo : StateView → ℕ → List ℕ → ℕ → Type 0
ComesTo s j [] k = j ≡ k
ComesTo s j (v ∷ others) k = Has s v j × ((next : ℕ) × Needs s v next × ComesTo s next others k)

-- no thread waits for itself, whatever others lie between
abbrev pub HasNoCircle : StateView → Type 0
HasNoCircle s = (t : ℕ) (others : List ℕ) → ¬ Leads s t others t

-- from each key that some thread needs one comes to a key with which some thread stands so
abbrev pub AllComeTo : StateView → (ℕ → ℕ → Type 0) → Type 0
AllComeTo s stands = (t j : ℕ) → Needs s t j → (others : List ℕ) × ((u k : ℕ) × ComesTo s j others k × stands u k)

-- one with which it goes on; or which it has and waits to be notified, or seeks in vain
abbrev pub SomeoneGoesOn : (ℕ → ℕ → Type 0) → StateView → Type 0
SomeoneGoesOn above s = AllComeTo s (λ u k. GoesOn s u k ⊎ AwaitsNotice above s u k ⊎ SeeksInVain s u k)

-- a state in order, and what that is worth where keys rise by some level
pub record IsOrderly (above : ℕ → ℕ → Type 0) (s : StateView) : Type 0 where
  pub ordered : IsOrdered above s
  pub no_circle : (level : ℕ → ℕ) → Rises above level → HasNoCircle s
  pub goes_on : (level : ℕ → ℕ) → Rises above level → SomeoneGoesOn above s
