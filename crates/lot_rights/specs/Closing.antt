-- What a closing asks for and tells.
use Rattle.std.specs.Prelude.{◌≡◌, ℕ, ◌+◌, ◌*◌, ◌≤◌, List, [], ◌++◌, length, map}
use Rattle.std.specs.List.{All}
use mathlib.Core.Option.{Option, some}
use lib.ListN.{get_elem?}
use Rattle.lot_events.specs.declared.events.Event.{Event}
use Rattle.lot_events.specs.declared.events.Seen.{Seen}
use Rattle.lot_rights.specs.declared.views.Entry.{Entry}
use Rattle.lot_rights.specs.declared.views.Right.{Right}
use Rattle.lot_rights.specs.declared.views.Right.TheVariants.{Pass, Root}
use Rattle.lot_rights.specs.Seating.{times}
use Rattle.lot_rights.specs.History.{events_in, entries_of, tokens_of, taken_in, ModelRun, Run, Telling, Continues, AllCountRight}
use Rattle.lot_rights.specs.Rule.{number, Meaning, LeadsOn}
use Rattle.lot_rights.specs.Shown.{PassShown, RootShown, right_of_pass, right_of_root}

module _ {P R : Type 0} where
  abbrev pub passes_in : List (PassShown P) → List (Right P R)
  passes_in passes = map (λ (p : PassShown P). Pass (right_of_pass p)) passes

  abbrev pub roots_in : List (RootShown R) → List (Right P R)
  roots_in roots = map (λ (q : RootShown R). Root (right_of_root q)) roots

module _ {S P R : Type 0} (k : Meaning S P R) where
  -- the words and the slots, as they were left, stand for a world that knows what these rights do
  pub record Left (passes : List (PassShown P)) (roots : List (RootShown R)) (ws : List ℕ) (xs : List S) : Type 0 where
    pub world : k.World
    pub homes : List (Option S)
    pub fits : k.Fits world ws homes
    pub deep : length homes ≡ length xs
    pub at_home : (i : ℕ) (y : S) → get_elem? homes i ≡ some (some y) → get_elem? xs i ≡ some y
    pub passes_fit : All (λ (p : PassShown P). k.PassFits world p.thread p.own) passes
    pub roots_fit : All (λ (q : RootShown R). k.RootFits world q.key q.own) roots
    -- no right is there twice
    pub once : (i : ℕ) → times {R = Right P R} number i (passes_in passes ++ roots_in roots) ≤ 1

  -- one legal history from the opening has led there, in which these rights have made just the entries that they show
  pub record Ended (passes : List (PassShown P)) (roots : List (RootShown R)) (ws : List ℕ) (xs : List S) : Type 0 where
    pub left : Left passes roots ws xs
    pub log : List Entry
    pub run : Run (LeadsOn k) k.start 0 log (k.told_by left.world)
    pub counted : AllCountRight [] log
    pub owed : (c : ℕ) → taken_in c log ≡ length (tokens_of c log) + k.owed_in left.world c
    pub passes_made : All (λ (p : PassShown P). p.made ≡ entries_of (2 * p.thread) log) passes
    pub roots_made : All (λ (q : RootShown R). q.made ≡ entries_of (2 * q.key + 1) log) roots

-- ---- what is left to tell when the table is gone: one history from the opening, in which what was counted is so, and a
-- run of the model, which is the history without its notices
module _ {Part P R : Type 0} (Step : Part → Event → Seen → Part → Type 0) (word_in waiting_in : Part → ℕ → ℕ) (IsQueued : Part → ℕ → Type 0)
    (start : Telling Part) where
  pub record IsRecounted (passes : List (PassShown P)) (roots : List (RootShown R)) : Type 0 where
    pub log : List Entry
    pub part : Part
    pub letters : ℕ → ℕ
    pub history : Run (Continues Step word_in waiting_in IsQueued) start 0 log (record { part = part; letters = letters })
    pub counted : AllCountRight [] log
    pub run : ModelRun Step start.part (events_in log) part
    pub passes_made : All (λ (p : PassShown P). p.made ≡ entries_of (2 * p.thread) log) passes
    pub roots_made : All (λ (q : RootShown R). q.made ≡ entries_of (2 * q.key + 1) log) roots
