-- Who is to see to a condition: a watch beside a state of the model tells what events leave out.
use Rattle.std.specs.Prelude.{◌≡◌, ◌≢◌, ℕ, ◌==◌, ◌&&◌, ◌⊎◌, Bool, true, false, not, if◌then◌else◌, nat_eq, List, [], ◌∷◌, take, Option}
use Rattle.std.specs.Prelude.{Some, None}
use Rattle.std.specs.List.{Contains, list_any}
use Rattle.lot_events.specs.declared.events.Point.{Point}
use Rattle.lot_events.specs.declared.events.Point.TheVariants.{Calm, Wants, Bed, Rest, Sweeps, Seeks}
use Rattle.lot_events.specs.declared.events.Event.{Event}
use Rattle.lot_events.specs.declared.events.Event.TheVariants.{Try, Take, Free, Pass, Enlist, Look, Call, Lower, Sweep, SemTake, SemFree}
use Rattle.lot_events.specs.declared.events.Event.TheVariants.{SemPass}
use Rattle.lot_core.specs.Model.{StateView, put}
use Rattle.lot_core.specs.Steps.{IsThread, Allowed, after}

-- the value of each lock, as it lies there or as its owner found it; whether thread t owes a notification of condition
-- c; and from which condition's line each thread was taken, until it lets that condition's lock go or waits again
pub record Watch (V : Type 0) : Type 0 where
  pub value : ℕ → V
  pub owes : ℕ → ℕ → Bool
  pub called : ℕ → Option ℕ

abbrev pub is_calm : Point → Bool
is_calm Calm = true
is_calm (Wants l) = false
is_calm (Bed c l) = false
is_calm (Rest c l) = false
is_calm (Sweeps c) = false
is_calm (Seeks k) = false

abbrev pub IsCalmOrSweeps : Point → Type 0
IsCalmOrSweeps p = (p ≡ Calm) ⊎ ((c : ℕ) × (p ≡ Sweeps c))

module _ {V : Type 0} where
  -- the values of an opening state, in which nobody owes a notification or was called
  abbrev pub opening_watch : (ℕ → V) → Watch V
  opening_watch values = record { value = values; owes = λ t c. false; called = λ t. None }

  abbrev pub OwesNothing : Watch V → ℕ → Type 0
  OwesNothing g t = (c : ℕ) → g.owes t c ≡ false

  -- t owes c no notification any more
  abbrev pub pays : Watch V → ℕ → ℕ → Watch V
  pays g t c = record g { owes = put g.owes t (put (g.owes t) c false) }

  -- these were taken from the line of c
  abbrev pub calls : Watch V → ℕ → List ℕ → Watch V
  calls g c taken = record g { called = λ u. if list_any (nat_eq u) taken then Some c else g.called u }

  -- u is to see to c: it owes c a notification, or was taken from its line, or sweeps it
  abbrev pub IsDueFor : StateView → Watch V → ℕ → ℕ → Type 0
  IsDueFor s g u c = (g.owes u c ≡ true) ⊎ ((g.called u ≡ Some c) ⊎ (s.point u ≡ Sweeps c))

  -- the state after these events, of which each comes with a value
  abbrev pub state_after : StateView → List (Event × V) → StateView
  state_after s [] = s
  state_after s (x ∷ rest) = state_after (after s x.0) rest

-- c is a condition of the lock `lock_of c`, and `ready c v` says whether who waits on it may go on where v lies in that
-- lock
module _ {V : Type 0} (lock_of : ℕ → ℕ) (ready : ℕ → V → Bool) where
  -- whoever was taken from the line of a condition of l is called no more once it lets l go
  abbrev pub called_beside : ℕ → Option ℕ → Option ℕ
  called_beside l None = None
  called_beside l (Some c) = if lock_of c == l then None else Some c

  -- t let l go and left v there: it owes each condition of l a notification for which v is ready
  abbrev pub leaves : Watch V → ℕ → ℕ → V → Watch V
  leaves g t l v = record {
    value = put g.value l v;
    owes = put g.owes t (λ c. (lock_of c == l) && ready c v);
    called = put g.called t (called_beside l (g.called t));
  }

  -- the watch after an event of state s; a calm thread that lets a lock go leaves v there
  abbrev pub watch_after : StateView → Watch V → Event → V → Watch V
  watch_after s g (Free t l) v = if is_calm (s.point t) && not (s.locks.parked l) then leaves g t l v else g
  watch_after s g (Pass t l fair more) v = if is_calm (s.point t) then leaves g t l v else g
  watch_after s g (Enlist t c l) v = record g { called = put g.called t None }
  watch_after s g (Look t c) v = if s.conds.flag c then g else pays g t c
  watch_after s g (Call t c n more) v = calls (pays g t c) c (take n (s.conds.line c))
  watch_after s g (Lower t c) v = pays g t c
  watch_after s g (Sweep t c) v = calls g c (s.conds.line c)
  watch_after s g _ v = g

  -- whoever owes a notification makes it before all else, and waits on a condition only where the value is not ready
  -- for it
  abbrev pub KeepsWatch : Watch V → Event → Type 0
  KeepsWatch g (Enlist t c l) =
      OwesNothing g t × (lock_of c ≡ l) × (ready c (g.value l) ≡ false) × ((d : ℕ) → g.called t ≡ Some d → d ≡ c)
  KeepsWatch g (Try t l) = OwesNothing g t
  KeepsWatch g (Take t l) = OwesNothing g t
  KeepsWatch g (Free t l) = OwesNothing g t
  KeepsWatch g (Pass t l fair more) = OwesNothing g t
  KeepsWatch g (SemTake t k) = OwesNothing g t
  KeepsWatch g (SemFree t k) = OwesNothing g t
  KeepsWatch g (SemPass t k more) = OwesNothing g t
  KeepsWatch g _ = Unit {0}

  -- where a value is ready for a condition with a line, some thread is to see to it; nobody who was called stands in a
  -- condition's line; and whoever owes a notification is awake
  pub record IsWatched (s : StateView) (g : Watch V) : Type 0 where
    pub due : (c : ℕ) → ready c (g.value (lock_of c)) ≡ true → s.conds.line c ≢ [] → (u : ℕ) × IsThread s u × IsDueFor s g u c
    pub outside : (c t : ℕ) → Contains (s.conds.line c) t → g.called t ≡ None
    pub awake : (t c : ℕ) → g.owes t c ≡ true → IsCalmOrSweeps (s.point t)

  -- a run of events with the values that were left, each of which keeps the watch
  abbrev pub WatchedRun : StateView → Watch V → List (Event × V) → Type 0
  WatchedRun s g [] = Unit {0}
  WatchedRun s g (x ∷ rest) = Allowed s x.0 × KeepsWatch g x.0 × WatchedRun (after s x.0) (watch_after s g x.0 x.1) rest

  abbrev pub watch_after_all : StateView → Watch V → List (Event × V) → Watch V
  watch_after_all s g [] = g
  watch_after_all s g (x ∷ rest) = watch_after_all (after s x.0) (watch_after s g x.0 x.1) rest

  -- where a value is ready for a condition and somebody stands in its line, a thread outside that line is to see to it
  abbrev pub NoneIsForgotten : StateView → Watch V → Type 0
  NoneIsForgotten s g =
      (c : ℕ) → ready c (g.value (lock_of c)) ≡ true → s.conds.line c ≢ []
      → (u : ℕ) × IsThread s u × (¬ Contains (s.conds.line c) u) × IsDueFor s g u c
