-- What the schedules of the tests know of a pass on two locks.
use Rattle.std.specs.Prelude.{◌≡◌, ℕ, true, false, List, [], ◌∷◌, length, slice_set, Some, None}
use Rattle.atomic_table.specs.Seated.{TableId}
use Rattle.lot_rights.specs.Shown.{PassShown, RootShown}
use Rattle.lot_words.specs.declared.views.Hold.TheVariants.{NotHeld, Held, FoundParked}
use Rattle.lot_words.specs.declared.views.LockPassView.{LockPassView}
use Rattle.lot_words.specs.declared.views.LockRootView.{LockRootView}
use Rattle.lot_words.specs.Values.{IsIn, HasSeen}
use Rattle.lot_words.specs.World.{Holds, HoldsParked}

-- the pass of the thread t, in the table, of two locks
abbrev pub IsPass : {V : Type 0} → TableId → ℕ → PassShown (LockPassView V) → Type 0
IsPass table t p = (p.table ≡ table) × (p.thread ≡ t) × (length p.own.holds ≡ 2) × (length p.own.places ≡ 2)
    × (length p.own.seen ≡ 2)

-- it wants nothing
abbrev pub IsCalm : {V : Type 0} → LockPassView V → Type 0
IsCalm p = (p.asleep ≡ false) × (p.aim ≡ None)

-- the pass of the thread t, in the table, which wants nothing and has neither lock
abbrev pub HasNothing : {V : Type 0} → TableId → ℕ → PassShown (LockPassView V) → Type 0
HasNothing table t p = IsPass table t p × IsCalm p.own × (p.own.holds ≡ NotHeld ∷ NotHeld ∷ [])

-- it wants the lock
abbrev pub Wants : {V : Type 0} → LockPassView V → ℕ → Type 0
Wants p l = (p.asleep ≡ false) × (p.aim ≡ Some l)

-- it is in the lock's line, or has a letter
abbrev pub Sleeps : {V : Type 0} → LockPassView V → ℕ → Type 0
Sleeps p l = (p.asleep ≡ true) × (p.aim ≡ Some l)

-- it has the lock, whose value lies in its slot as it was found
abbrev pub Owns : {V : Type 0} → LockPassView V → ℕ → Type 0
Owns {V} p l = IsCalm p × Holds p l × ((x : V) × IsIn p l x × HasSeen p l x)

-- it has the lock, and a value lies in its slot
abbrev pub MayFree : {V : Type 0} → LockPassView V → ℕ → Type 0
MayFree {V} p l = IsCalm p × Holds p l × ((y : V) × IsIn p l y)

-- it has the lock, which it found parked
abbrev pub MayPass : {V : Type 0} → LockPassView V → ℕ → Type 0
MayPass {V} p l = IsCalm p × HoldsParked p l × ((y : V) × IsIn p l y)

-- the root of the lock, which owes nothing, with this line
abbrev pub IsRoot : TableId → ℕ → List ℕ → RootShown LockRootView → Type 0
IsRoot table l line q = (q.table ≡ table) × (q.key ≡ l) × (q.own.line ≡ line) × (q.own.owes ≡ None)

-- what calls leave of a pass p: it has got the lock
abbrev pub Gets : {V : Type 0} → LockPassView V → ℕ → LockPassView V → Type 0
Gets p l q = Owns q l × (q.holds ≡ slice_set p.holds l Held)

-- it has got nothing, and wants the lock
abbrev pub ComesToWant : {V : Type 0} → LockPassView V → ℕ → LockPassView V → Type 0
ComesToWant p l q = Wants q l × (q.holds ≡ p.holds)

-- it has got nothing, and wants nothing
abbrev pub StaysCalm : {V : Type 0} → LockPassView V → LockPassView V → Type 0
StaysCalm p q = IsCalm q × (q.holds ≡ p.holds)

-- it has let the lock go
abbrev pub LetsGo : {V : Type 0} → LockPassView V → ℕ → LockPassView V → Type 0
LetsGo p l q = IsCalm q × (q.holds ≡ slice_set p.holds l NotHeld)

-- it has the lock still, and knows that it is parked
abbrev pub FindsParked : {V : Type 0} → LockPassView V → ℕ → LockPassView V → Type 0
FindsParked p l q = MayPass q l × (q.holds ≡ slice_set p.holds l FoundParked)

-- the passes of the threads 0 and 1, which have nothing, and the root of the lock, in whose line nobody is
abbrev pub AreFresh : {V : Type 0} → TableId → ℕ → PassShown (LockPassView V) → PassShown (LockPassView V)
    → RootShown LockRootView → Type 0
AreFresh table l zero one root = HasNothing table 0 zero × HasNothing table 1 one × IsRoot table l [] root

-- and what a schedule leaves of them
abbrev pub AreBack : {V : Type 0} → TableId → ℕ → PassShown (LockPassView V) → PassShown (LockPassView V)
    → RootShown LockRootView → Type 0
AreBack table l zero one root = HasNothing table 0 zero × HasNothing table 1 one × (root.table ≡ table) × (root.key ≡ l)
