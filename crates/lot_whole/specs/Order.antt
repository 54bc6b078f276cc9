-- In which order: a letter that a thread collects after it was queued comes after the event that took it from the line,
-- and what a thread counts is so of the entries before that.
use Rattle.std.specs.Prelude.{◌≡◌, ℕ, ◌+◌, ◌*◌, ◌<◌, ◌==◌, ◌++◌, true, cond as either, List, [], ◌∷◌, length, map, sum_by, Some}
use Rattle.std.specs.List.{Contains}
use Rattle.lot_core.specs.Model.{StateView}
use Rattle.lot_core.specs.Steps.{after_all, seen}
use Rattle.lot_core.specs.Sums.{bit}
use Rattle.lot_events.specs.declared.events.Event.{Event}
use Rattle.lot_events.specs.declared.events.Seen.{Seen}
use Rattle.lot_events.specs.declared.events.Event.TheVariants.{Park, Pass, Enlist, Call, Sweep, SemPark, SemPass}
use Rattle.lot_events.specs.declared.events.Seen.TheVariants.{Bool as Saw, Done}
use Rattle.lot_rights.specs.declared.views.Access.{Access}
use Rattle.lot_rights.specs.declared.views.Access.TheVariants.{Makes, Collects, Counts}
use Rattle.lot_rights.specs.declared.views.Entry.{Entry}
use Rattle.lot_rights.specs.History.{doer, entries_of, Telling, no_letters, Continues, Run, events_in, tokens_of, handed_in, AllCountRight}
use Rattle.lot_whole.specs.Family.{Which, lock, cond, sem, LotSize}
use Rattle.lot_whole.specs.Whole.{WholeStep, word_in, waiting_in, line_in, line_at, IsQueued, opening_of}
use Rattle.lot_whole.specs.Headline.{event_of}

-- the log is the history of a lot of this size, from the opening to what b tells
abbrev pub IsLogOf : LotSize → List Entry → Telling StateView → Type 0
IsLogOf z log b = Run (Continues WholeStep (word_in z) (waiting_in z) IsQueued) (no_letters (opening_of z)) 0 log b

-- the state to which its events lead
abbrev pub state_after : LotSize → List Entry → StateView
state_after z log = after_all (opening_of z) (map event_of (events_in log))

-- by the access the thread t is queued at the key c
abbrev pub IsQueuing : Which → ℕ → ℕ → Access → Type 0
IsQueuing lock t c a = a ≡ Makes (Park t c) (Saw true)
IsQueuing cond t c a = (l : ℕ) × (a ≡ Makes (Enlist t c l) Done)
IsQueuing sem t c a = a ≡ Makes (SemPark t c) (Saw true)

-- by such an access threads are taken from the line of the key c
abbrev pub IsTaking : Which → ℕ → Access → Type 0
IsTaking lock c (Makes (Pass u d fair more) saw) = d ≡ c
IsTaking cond c (Makes (Call u d n more) saw) = d ≡ c
IsTaking cond c (Makes (Sweep u d) saw) = d ≡ c
IsTaking sem c (Makes (SemPass u d more) saw) = d ≡ c
IsTaking _ _ _ = ⊥

-- what the access saw is what its event sees in this state
abbrev pub SeesIn : StateView → Access → Type 0
SeesIn s (Makes e saw) = saw ≡ seen s e
SeesIn s _ = Unit {0}

-- the accesses that were made with the right of the number i, in their order
abbrev pub accesses_of : ℕ → List Entry → List Access
accesses_of i log = map (λ (x : Entry). x.access) (entries_of i log)

-- Of a log in which the thread t has made the accesses `front`, then x, then those `between`, and then y: it has an
-- entry between x and y by which t was taken from the line of the key c. That is an event of a thread, whose pass shows
-- it
pub record WasTaken (z : LotSize) (j : Which) (t c : ℕ) (log : List Entry) (front : List Access) (x : Access)
    (between : List Access) (y : Access) : Type 0 where
  -- the log: what was made before x, x, and so on to y and what was made after it
  pub before : List Entry
  pub first : Entry
  pub waiting : List Entry
  pub taking : Entry
  pub since : List Entry
  pub last : Entry
  pub after : List Entry
  pub there : log ≡ before ++ first ∷ (waiting ++ taking ∷ (since ++ last ∷ after))
  pub front_is : accesses_of (2 * t) before ≡ front
  pub first_is : first.access ≡ x
  pub between_is : accesses_of (2 * t) (waiting ++ taking ∷ since) ≡ between
  pub last_is : last.access ≡ y
  -- what was done
  pub takes : IsTaking j c taking.access
  pub saw : SeesIn (state_after z (before ++ first ∷ waiting)) taking.access
  pub was_in : Contains (line_in (state_after z (before ++ first ∷ waiting)) j c) t
  pub is_out : ¬ Contains (line_in (state_after z ((before ++ first ∷ waiting) ++ taking ∷ [])) j c) t
  -- and by whom
  pub maker : ℕ
  pub is_thread : maker < z.threads
  pub made_by : doer taking.access ≡ 2 * maker
  pub shown : Contains (entries_of (2 * maker) log) taking
  pub made : Contains (accesses_of (2 * maker) log) taking.access

-- Of each log, and of each thread t: between its access x, by which it was queued at a key, and its later access y, by
-- which it collected a letter, it was taken from the key's line
abbrev pub LettersFollow : Type 0
LettersFollow = (z : LotSize) (log : List Entry) (b : Telling StateView) → IsLogOf z log b
    → (j : Which) (t c token : ℕ) (front : List Access) (x : Access) (between : List Access) (y : Access) (back : List Access)
    → accesses_of (2 * t) log ≡ front ++ x ∷ (between ++ y ∷ back) → IsQueuing j t c x → y ≡ Collects t (Some token)
    → WasTaken z j t c log front x between y

-- how many threads the event queued at the key c
abbrev pub queued_at : ℕ → Event → Seen → ℕ
queued_at c (Park t l) (Saw b) = either (c == l) (bit b) 0
queued_at c (Enlist t d l) saw = either (c == d) 1 0
queued_at c (SemPark t k) (Saw b) = either (c == k) (bit b) 0
queued_at c _ _ = 0

abbrev pub queued_by : ℕ → Access → ℕ
queued_by c (Makes e saw) = queued_at c e saw
queued_by c _ = 0

abbrev pub queued_in : ℕ → List Entry → ℕ
queued_in c log = sum_by (λ (x : Entry). queued_by c x.access) log

-- Of a log in which the thread t has made the accesses `front`, and then counted so of the key c: so many of the
-- entries before that told threads that they were taken from the line of c, and so many of these handed the lock over;
-- so many threads were in the line; and so many had been queued at c as were told and waited
pub record IsCounted (z : LotSize) (t c : ℕ) (log : List Entry) (front : List Access) (told handed waiting : ℕ) : Type 0 where
  pub before : List Entry
  pub entry : Entry
  pub after : List Entry
  pub there : log ≡ before ++ entry ∷ after
  pub front_is : accesses_of (2 * t) before ≡ front
  pub entry_is : entry.access ≡ Counts t c told handed waiting
  pub told_are : told ≡ length (tokens_of c before)
  pub handed_are : handed ≡ handed_in (tokens_of c before)
  pub waiting_are : waiting ≡ length (line_at z (state_after z before) c)
  pub queued_are : told + waiting ≡ queued_in c before

-- Of each log that counts right, and of each access by which a thread counted
abbrev pub CountsFollow : Type 0
CountsFollow = (z : LotSize) (log : List Entry) (b : Telling StateView) → IsLogOf z log b → AllCountRight [] log
    → (t c told handed waiting : ℕ) (front back : List Access)
    → accesses_of (2 * t) log ≡ front ++ Counts t c told handed waiting ∷ back → IsCounted z t c log front told handed waiting
