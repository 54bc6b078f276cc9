-- What an unlock may answer, and what its answer comes from; and the traces of unlocks.
use Rattle.std.specs.Prelude.{◌≡◌, ℕ, ◌<◌, ◌⊎◌, ◌||◌, Bool, true, false, List, [], ◌∷◌, drop, Option, Some, None, IsSome}
use Rattle.lot_events.specs.declared.events.Event.TheVariants.{Free, Pass}
use Rattle.lot_events.specs.declared.events.Seen.TheVariants.{Bool as Saw, Sleeper}
use Rattle.lot_bucket.specs.KeyLine.{KeyLine}
use Rattle.lot_bucket.specs.declared.taking.Dequeued.{Dequeued}
use Rattle.lot_park.specs.Parking.{debt}
use Rattle.lot_rights.specs.declared.views.Access.{Access}
use Rattle.lot_rights.specs.declared.views.Access.TheVariants.{Makes}
use Rattle.lot_locks.specs.declared.released.Released.{Released}
use Rattle.lot_locks.specs.declared.released.Released.TheVariants.{Quiet, Nobody, Woke, Handed}

-- what is decided of the first of the line, if any
abbrev pub decision : Option ℕ → Bool → Released
decision None hands = Nobody
decision (Some thread) true = Handed
decision (Some thread) false = Woke

-- the token by which a sleeper is told the answer: 1 exactly where the lock was handed to it
abbrev pub token_told : Released → ℕ
token_told Quiet = 0
token_told Nobody = 0
token_told Woke = 0
token_told Handed = 1

-- What the callback of an unlock does, which is told of the first of the line: it takes that thread from the line,
-- decides what becomes of the lock, and owes the thread a letter that tells it.
pub record HandsOver {R : Type 0} (view : R → KeyLine) (root : R) (told : Dequeued) (fair : Bool) (root_now : R) (became : Released)
    (token : ℕ) : Type 0 where
  pub named : (view root_now).key ≡ (view root).key
  pub lined : (view root_now).line ≡ drop 1 (view root).line
  pub decided : became ≡ decision told.thread (fair || told.fair)
  pub tells : token ≡ token_told became
  pub owing : (view root_now).owes ≡ debt told.thread token

-- a fair release leaves no lock to whoever comes first, and a release that is not asked to be fair hands over only
-- after the moment 0
abbrev pub IsFitting : Released → Bool → ℕ → Type 0
IsFitting Quiet fair now = Unit {0}
IsFitting Nobody fair now = Unit {0}
IsFitting Woke fair now = fair ≡ false
IsFitting Handed fair now = fair ≡ false → 0 < now

-- ---- traces: t is the thread, l the lock
-- a lock that was found parked was passed on, of which this became; it stays marked as parked where more is true, and
-- then its line had a first
abbrev pub Passed : ℕ → ℕ → Bool → Released → List Access → Type 0
Passed t l more became acts =
    (first : Option ℕ) × (fair : Bool) × (became ≡ decision first fair) × (more ≡ true → IsSome first)
    × (acts ≡ Makes (Pass t l fair more) (Sleeper first) ∷ [])

-- a lock was let go, of which this became: by the first exchange, or it was found parked and then passed on
abbrev pub FreeTrace : ℕ → ℕ → Released → List Access → Type 0
FreeTrace t l became acts =
    ((became ≡ Quiet) × (acts ≡ Makes (Free t l) (Saw true) ∷ []))
    ⊎ ((more : Bool) × (rest : List Access) × Passed t l more became rest × (acts ≡ Makes (Free t l) (Saw false) ∷ rest))
