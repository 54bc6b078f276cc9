-- How a pass stands in a wait on a condition: enlisted, with its lock let go, woken, and with the lock again. c is the
-- condition's key, and l the lock's.
use Rattle.std.specs.Prelude.{◌≡◌, ℕ, ◌<◌, ◌++◌, List, [], ◌∷◌, Option, Some}
use Rattle.std.specs.List.{All}
use Rattle.lot_events.specs.declared.events.Event.TheVariants.{Enlist}
use Rattle.lot_events.specs.declared.events.Seen.TheVariants.{Done}
use Rattle.lot_order.specs.Order.{MayWait}
use Rattle.lot_park.specs.Parking.{Awaited}
use Rattle.lot_rights.specs.declared.views.Access.{Access}
use Rattle.lot_rights.specs.declared.views.Access.TheVariants.{Makes, Collects}
use Rattle.lot_words.specs.CallersRule.{CallersRule}
use Rattle.lot_words.specs.World.{Holds}
use Rattle.lot_words.specs.Values.{IsIn, FoundOk}
use Rattle.lot_words.specs.Calls.{letting_go as lock_letting_go}
use Rattle.lot_whole.specs.Standing.{IsIdle, keys_of}
use Rattle.lot_scheme.specs.Standing.{LotStanding, adding, owning, letting_go, enlisted, one_wait_more}
use Rattle.lot_scheme.specs.Traces.{GetTrace, IsVain}
use Rattle.lot_locks.specs.Released.{FreeTrace}
use Rattle.lot_locks.specs.declared.released.Released.{Released}
use Rattle.lot_waits.specs.Notifying.{IsCondKey}

-- ---- the trace of a wait
-- the thread was enlisted; its lock was let go, of which this became; it looked for its letter, some times in vain, and
-- found it; and it got the lock again
pub record WaitTrace (t c l : ℕ) (became : Released) (acts : List Access) : Type 0 where
  pub free : List Access
  pub looks : List Access
  pub get : List Access
  pub freed : FreeTrace t l became free
  pub vain : All (IsVain t) looks
  pub got : GetTrace t l get
  pub is : acts ≡ Makes (Enlist t c l) Done ∷ (free ++ (looks ++ (Collects t (Some 0) ∷ get)))

module _ {V : Type 0} where
  -- it is idle, and has the lock, one of so many, whose value lies in its slot; what it has beside may wait so
  pub record MayEnlist (above : ℕ → ℕ → Type 0) (locks first_sem : ℕ) (p : LotStanding V) (c l : ℕ) : Type 0 where
    pub cond : IsCondKey locks first_sem c
    pub lock : l < locks
    pub idle : IsIdle p.own
    pub holds : Holds p.own.locks l
    pub lies : (y : V) × IsIn p.own.locks l y
    pub below : MayWait above (keys_of p.own) c l

  abbrev pub Enlists : LotStanding V → ℕ → ℕ → LotStanding V → Type 0
  Enlists p c l q = q ≡ adding (enlisted p c l) (Makes (Enlist p.thread c l) Done ∷ [])

  -- the pass after a whole wait, which left the value y in the lock and found x there when it got the lock again
  abbrev pub waited : LotStanding V → ℕ → ℕ → V → V → LotStanding V
  waited p c l y x = owning (one_wait_more (letting_go (enlisted p c l) l y) c) l x

-- it waited, and the lock became this when it was let go
pub record HasWaited {V Part : Type 0} (rule : CallersRule V Part) (p : LotStanding V) (c l : ℕ) (became : Released)
    (q : LotStanding V) : Type 0 where
  pub left : V
  pub lay : IsIn p.own.locks l left
  pub found : V
  pub found_ok : FoundOk rule l p.thread (lock_letting_go p.own.locks l left) found
  pub did : List Access
  pub trace : WaitTrace p.thread c l became did
  pub is : q ≡ adding (waited p c l left found) did

-- ---- for every scheme
module _ {P : Type 0} (enlists : P → ℕ → ℕ → P → Type 0) (lets_go : P → ℕ → Released → P → Type 0)
    (looked : P → Option ℕ → P → Type 0) where
  -- the thread was enlisted, let its lock go, and found its letter
  pub record Slept (before : P) (c l : ℕ) (became : Released) (after : P) : Type 0 where
    pub queued : P
    pub free : P
    pub token : ℕ
    pub lined : enlists before c l queued
    pub went : lets_go queued l became free
    pub awaited : Awaited looked free token after
