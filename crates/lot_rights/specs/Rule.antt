-- The rule of a table of rights: there is a world, with a history, that the words, the slots and the rights stand for.
use Rattle.std.specs.Prelude.{◌≡◌, ℕ, ◌+◌, ◌*◌, ◌<◌, ◌≤◌, ◌⊎◌, List, length}
use mathlib.Core.Option.{Option}
use Rattle.atomic_table.specs.Table.{State}
use Rattle.lot_events.specs.declared.events.Event.{Event}
use Rattle.lot_events.specs.declared.events.Seen.{Seen}
use Rattle.lot_rights.specs.declared.views.Access.{Access}
use Rattle.lot_rights.specs.declared.views.Entry.{Entry}
use Rattle.lot_rights.specs.declared.views.Right.{Right}
use Rattle.lot_rights.specs.declared.views.Right.TheVariants.{Pass, Root}
use Rattle.lot_rights.specs.Seating.{times_in, Seated}
use Rattle.lot_rights.specs.History.{Telling, Happens, Continues, tokens_of, taken_in, Recorded}

module _ {P R : Type 0} where
  abbrev pub number : Right P R → ℕ
  number (Pass p) = 2 * p.thread
  number (Root q) = 2 * q.key + 1

  -- the entries of the history that a right shows
  abbrev pub made_with : Right P R → List Entry
  made_with (Pass p) = p.made
  made_with (Root q) = q.made

-- What a kind of table has of its own: what its words, slots and rights stand for, and the part of the model that it
-- keeps
pub record Meaning (S P R : Type 0) : Type 1 where
  pub World : Type 0
  pub Part : Type 0
  -- the words and the slots stand for the world, which keeps its own rule
  pub Fits : World → List ℕ → List (Option S) → Type 0
  -- the pass of the thread t knows this; the root of the key c knows this
  pub PassFits : World → ℕ → P → Type 0
  pub RootFits : World → ℕ → R → Type 0
  -- how many threads the root of a key has taken from its line and not yet told
  pub owed_in : World → ℕ → ℕ
  -- what the world tells: the part of the model, and the letters
  pub told_by : World → Telling Part
  pub start : Telling Part
  pub Step : Part → Event → Seen → Part → Type 0
  -- the word of a key, as the part of the model tells it
  pub word_in : Part → ℕ → ℕ
  -- how many threads are in the line of a key
  pub waiting_in : Part → ℕ → ℕ
  -- the thread is in a line, as the part of the model tells it
  pub IsQueued : Part → ℕ → Type 0
  -- how many threads there are, which keys, and what their rights know at the opening
  pub threads : ℕ
  pub first_key : ℕ
  pub keys : ℕ
  pub fresh_pass : ℕ → P
  pub fresh_root : ℕ → R

module _ {S P R : Type 0} (k : Meaning S P R) where
  abbrev pub RightFits : k.World → Right P R → Type 0
  RightFits w (Pass p) = k.PassFits w p.thread p.own
  RightFits w (Root q) = k.RootFits w q.key q.own

  abbrev pub IsThread : ℕ → Type 0
  IsThread t = t < k.threads

  abbrev pub IsKey : ℕ → Type 0
  IsKey c = (k.first_key ≤ c) × (c < k.first_key + k.keys)

  -- the number of a thread's pass, or of a key's root
  abbrev pub IsRight : ℕ → Type 0
  IsRight i = ((t : ℕ) × IsThread t × (i ≡ 2 * t)) ⊎ ((c : ℕ) × IsKey c × (i ≡ 2 * c + 1))

  abbrev pub Leads : Telling k.Part → Access → Telling k.Part → Type 0
  Leads = Happens k.Step k.word_in k.waiting_in

  -- and no letter lies then for a thread that is in a line
  abbrev pub LeadsOn : Telling k.Part → Access → Telling k.Part → Type 0
  LeadsOn = Continues k.Step k.word_in k.waiting_in k.IsQueued

  -- the log is the history of a table with these views, and has led to what b tells
  abbrev pub IsHistory : List Entry → List (List (Right P R)) → Telling k.Part → Type 0
  IsHistory log views b = Recorded number made_with LeadsOn k.start log views b

  pub record Ruled (s : State S (List (Right P R))) : Type 0 where
    pub world : k.World
    pub fits : k.Fits world s.words s.homes
    pub seats : Seated number (RightFits world) s.views
    pub present : (i : ℕ) → IsRight i → 1 ≤ times_in number i s.views
    pub log : List Entry
    pub recorded : IsHistory log s.views (k.told_by world)
    -- who was taken from a line was told, or is owed it
    pub owed : (c : ℕ) → taken_in c log ≡ length (tokens_of c log) + k.owed_in world c
