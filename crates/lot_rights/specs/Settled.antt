-- The laws of the history: the rights settle it, one entry more is one access, and no entry is none, wherever the
-- rights lie.
use Rattle.std.specs.Prelude.{◌≡◌, ◌≢◌, ℕ, ◌++◌, ◌⊎◌, List, [], ◌∷◌, length, slice_set}
use mathlib.Core.Option.{Option, some}
use lib.ListN.{get_elem?}
use Rattle.atomic_table.specs.Table.{State}
use Rattle.lot_events.specs.declared.events.Event.{Event}
use Rattle.lot_events.specs.declared.events.Seen.{Seen}
use Rattle.lot_rights.specs.declared.views.Entry.{Entry}
use Rattle.lot_rights.specs.declared.views.Right.{Right}
use Rattle.lot_rights.specs.Seating.{times_in, Seated}
use Rattle.lot_rights.specs.History.{doer, events_in, ModelRun, SameMade, SameShown, OneMoreShown, Telling, NoLetterInLine}
use Rattle.lot_rights.specs.Rule.{number, made_with, Meaning, RightFits, IsRight, Leads, IsHistory, Ruled}

module _ {S P R : Type 0} (k : Meaning S P R) where
  -- a step of the model has one outcome
  abbrev pub HasOneOutcome : Type 0
  HasOneOutcome = (a b c : k.Part) (e : Event) (s : Seen) → k.Step a e s b → k.Step a e s c → b ≡ c

  -- whatever the words stand for, no letter lies for a thread that is in a line
  abbrev pub LinesHaveNoLetter : Type 0
  LinesHaveNoLetter = (w : k.World) (ws : List ℕ) (hs : List (Option S)) → k.Fits w ws hs → NoLetterInLine k.IsQueued (k.told_by w)

  -- two histories of the same rights are one, and have led to the same
  abbrev pub RightsSettle : Type 0
  RightsSettle = (views : List (List (Right P R))) (log log' : List Entry) (a b : Telling k.Part) → IsHistory k log views a
      → IsHistory k log' views b → (log ≡ log') × (a ≡ b)

  -- Of two tables that keep the rule: where the rights show one entry more in the second, that access and no other was
  -- made, from what the words told just then
  abbrev pub OneEntryIsOneAccess : Type 0
  OneEntryIsOneAccess = (s s' : State S (List (Right P R))) (before : Ruled k s) (after : Ruled k s') (x : Entry)
      → OneMoreShown number made_with s.views x s'.views
      → (after.log ≡ before.log ++ x ∷ []) × (x.at ≡ length before.log) × Leads k (k.told_by before.world) x.access (k.told_by after.world)

  -- Where no right shows another entry, no access was made, and the words tell the same
  abbrev pub NoEntryIsNone : Type 0
  NoEntryIsNone = (s s' : State S (List (Right P R))) (before : Ruled k s) (after : Ruled k s')
      → SameShown number made_with s.views s'.views
      → (after.log ≡ before.log) × (k.told_by after.world ≡ k.told_by before.world)

  -- What the rights of such a table show, where their seats join, split or take a step: they show more only where the
  -- first right of a seat does
  pub record SeatsShow (s : State S (List (Right P R))) : Type 0 where
    pub joined : (id other : ℕ) (v w : List (Right P R)) → get_elem? s.views id ≡ some v → other ≢ id
        → get_elem? s.views other ≡ some w
        → SameShown number made_with s.views (slice_set (slice_set s.views id (v ++ w)) other [])
    pub split : (id : ℕ) (v l r : List (Right P R)) → get_elem? s.views id ≡ some v → (v ≡ l ++ r) ⊎ (v ≡ r ++ l)
        → SameShown number made_with s.views (slice_set s.views id l ++ r ∷ [])
    pub same : (id : ℕ) (v v' : List (Right P R)) → get_elem? s.views id ≡ some v → SameMade number made_with v v'
        → SameShown number made_with s.views (slice_set s.views id v')
    pub more : (id : ℕ) (r r' : Right P R) (rest rest' : List (Right P R)) (x : Entry) → get_elem? s.views id ≡ some (r ∷ rest)
        → SameMade number made_with rest rest' → number r' ≡ number r → doer x.access ≡ number r → made_with r' ≡ made_with r ++ x ∷ []
        → OneMoreShown number made_with s.views x (slice_set s.views id (r' ∷ rest'))

  abbrev pub RuledSeatsShow : Type 0
  RuledSeatsShow = (s : State S (List (Right P R))) → Ruled k s → SeatsShow s

  -- Of every table that keeps the rule: each right is in exactly one place, and the log without its notices is a run of
  -- the model to the part that the words tell
  pub record TableHasOneRun (s : State S (List (Right P R))) (here : Ruled k s) : Type 0 where
    pub once : (i : ℕ) → IsRight k i → times_in number i s.views ≡ 1
    pub model : ModelRun k.Step k.start.part (events_in here.log) (k.told_by here.world).part

  abbrev pub RuledHasOneRun : Type 0
  RuledHasOneRun = (s : State S (List (Right P R))) (here : Ruled k s) → TableHasOneRun s here

  -- What every headline says of its world: each right is in exactly one place, and knows what the world says of it; and
  -- one legal history, of which the rights have all entries, has led to it. Without its notices that is a run of the
  -- model
  pub record OneHistory (s : State S (List (Right P R))) (w : k.World) : Type 0 where
    pub rights : Seated number (RightFits k w) s.views
    pub in_place : (i : ℕ) → IsRight k i → times_in number i s.views ≡ 1
    pub log : List Entry
    pub history : IsHistory k log s.views (k.told_by w)
    pub model : ModelRun k.Step k.start.part (events_in log) (k.told_by w).part
