-- The state of the whole model: how a thread stands at a condition, what an access does to it all, and the word of each
-- key.
use Rattle.std.specs.Prelude.{◌≡◌, ◌≢◌, ℕ, ◌+◌, true, List, length, nat_lt, if◌then◌else◌}
use Rattle.std.specs.List.{Contains}
use Rattle.lot_core.specs.Model.{StateView, put, opening_with}
use Rattle.lot_core.specs.Steps.{Allowed, after, seen, IsReached}
use Rattle.lot_core.specs.Parts.{AsksOfThread}
use Rattle.lot_core.specs.Rows.{told, row_from}
use Rattle.lot_events.specs.declared.events.Point.{Point}
use Rattle.lot_events.specs.declared.events.Point.TheVariants.{Bed, Rest}
use Rattle.lot_events.specs.declared.events.Event.{Event}
use Rattle.lot_events.specs.declared.events.Event.TheVariants.{Take, Free, Pass, Enlist, Lower, Sweep, SemTake}
use Rattle.lot_events.specs.declared.events.Seen.{Seen}
use Rattle.lot_events.specs.declared.events.Seen.TheVariants.{Bool as Saw}
use Rattle.lot_rights.specs.declared.views.Access.{Access}
use Rattle.lot_rights.specs.declared.views.Access.TheVariants.{Makes}
use Rattle.lot_rights.specs.History.{maker}
use Rattle.lot_words.specs.World.{bits_of}
use Rattle.lot_conds.specs.World.{flag_word}
use Rattle.lot_sems.specs.World.{word_of}
use Rattle.lot_whole.specs.declared.views.Stand.{Stand}
use Rattle.lot_whole.specs.declared.views.Stand.TheVariants.{Idle, AtBed, AtRest}
use Rattle.lot_words.specs.CallersRule.{CallersRule}
use Rattle.lot_whole.specs.Family.{Which, lock, cond, sem, LotSize, meaning_of, part_in, IsEventIn}

-- ---- standing: what none of the three parts tells of a point
abbrev pub stand_of : Point → Stand
stand_of (Bed c l) = AtBed c l
stand_of (Rest c l) = AtRest c l
stand_of _ = Idle

-- who lets a lock go at the bed of a condition rests then
abbrev pub rises : Stand → Stand
rises (AtBed c l) = AtRest c l
rises s = s

-- how a thread stands after an event of its own, of which this was seen
abbrev pub moves : Event → Seen → Stand → Stand
moves (Take t l) saw s = Idle
moves (Free t l) (Saw true) s = rises s
moves (Pass t l fair more) saw s = rises s
moves (Enlist t c l) saw s = AtBed c l
moves (Lower t c) saw s = Idle
moves (Sweep t c) saw s = Idle
moves (SemTake t k) saw s = Idle
moves _ saw s = s

abbrev pub moves_by : Access → Stand → Stand
moves_by (Makes e saw) s = moves e saw s
moves_by _ s = s

-- t alone stands so from then on
abbrev pub Stands : StateView → ℕ → (ℕ → Point) → Stand → Type 0
Stands s t point to = told stand_of point ≡ put (told stand_of s.point) t to

-- ---- the state after an access
abbrev pub whole_by : Access → StateView → StateView
whole_by (Makes e saw) s = after s e
whole_by _ s = s

-- state s becomes r by an event that is allowed there, of which this is seen
abbrev pub WholeStep : StateView → Event → Seen → StateView → Type 0
WholeStep s e saw r = Allowed s e × (saw ≡ seen s e) × (r ≡ after s e)

-- ---- words
-- the word of each key, whatever its kind
abbrev pub word_in : LotSize → StateView → ℕ → ℕ
word_in z s c =
    if nat_lt c z.locks then bits_of (s.locks.held c) (s.locks.parked c)
    else (if nat_lt c (z.locks + z.conds) then flag_word (s.conds.flag c) else word_of (s.sems.left c) (s.sems.parked c))

-- ---- lines
-- the line of a key of the kind
abbrev pub line_in : StateView → Which → ℕ → List ℕ
line_in s lock l = s.locks.line l
line_in s cond c = s.conds.line c
line_in s sem k = s.sems.line k

-- the line of each key, whatever its kind
abbrev pub line_at : LotSize → StateView → ℕ → List ℕ
line_at z s c =
    if nat_lt c z.locks then s.locks.line c
    else (if nat_lt c (z.locks + z.conds) then s.conds.line c else s.sems.line c)

-- how many threads are in it
abbrev pub waiting_in : LotSize → StateView → ℕ → ℕ
waiting_in z s c = length (line_at z s c)

-- the thread is in the line of a key, of whatever kind
abbrev pub IsQueued : StateView → ℕ → Type 0
IsQueued s t = (j : Which) × (c : ℕ) × Contains (line_in s j c) t

-- ---- how many there are: no event changes it
pub record HowMany : Type 0 where
  pub threads : ℕ
  pub locks : ℕ
  pub conds : ℕ
  pub sems : ℕ
  pub permits : ℕ → ℕ

abbrev pub counts_in : StateView → HowMany
counts_in s = record { threads = s.threads; locks = s.lock_count; conds = s.cond_count; sems = s.sem_count; permits = s.permits }

abbrev pub counts_of : LotSize → HowMany
counts_of z = record {
  threads = z.threads;
  locks = z.locks;
  conds = z.conds;
  sems = length z.permits;
  permits = row_from 0 (z.locks + z.conds) z.permits;
}

abbrev pub opening_of : LotSize → StateView
opening_of z = opening_with z.threads z.locks z.conds z.permits

-- ---- how a step of one kind and the whole fit together
module _ {V Part : Type 0} (rule : CallersRule V Part) (z : LotSize) (xs : List V) where
  -- what a step of the kind j, whose event leads its part to b, is to the whole: it is allowed there, sees the same,
  -- leads the part to the same, and leaves the others
  pub record Joined (j : Which) (s : StateView) (e : Event) (saw : Seen) (b : (meaning_of rule z xs j).Part) : Type 0 where
    pub allowed : Allowed s e
    pub saw_is : saw ≡ seen s e
    pub part : part_in rule z xs j (after s e) ≡ b
    pub others : (k : Which) → k ≢ j → part_in rule z xs k (after s e) ≡ part_in rule z xs k s

  abbrev pub Joins : Type 0
  Joins = (j : Which) (s : StateView) (e : Event) (saw : Seen) (b : (meaning_of rule z xs j).Part) → IsReached s → counts_in s ≡ counts_of z
      → IsEventIn j e → AsksOfThread s e
      → (meaning_of rule z xs j).Step (part_in rule z xs j s) e saw b → Joined j s e saw b

-- and what no part tells: of an event its own thread alone moves
abbrev pub StandsMove : Type 0
StandsMove = (s : StateView) (e : Event) → IsReached s
    → Stands s (maker e) (after s e).point (moves e (seen s e) (stand_of (s.point (maker e))))
