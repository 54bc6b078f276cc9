-- What a script is, and which texts spell it.
use Rattle.std.specs.Prelude.{◌≡◌, ◌≢◌, ℕ, ◌+◌, ◌<◌, ◌⊎◌, List, [], ◌∷◌, ◌++◌, length, codes, Result, Ok, Err}
use Rattle.lot_events.specs.declared.events.Event.{Event}
use Rattle.lot_core.specs.declared.script.TheConstants.{MAX_LINES}
use Rattle.lot_core.specs.declared.script.Script.{Script}
use Rattle.lot_core.specs.declared.script.ScriptFault.{ScriptFault}
use Rattle.lot_core.specs.declared.script.ScriptFault.TheVariants.{BadLine, NoMemory}
pub use Rattle.lot_events.specs.Spelling.{field, line, IsSmall, IsLine, Spells, BeginsWith, NoEvent}

-- the text is lines that spell these events, one each, in order
abbrev pub SpellsAll : List ℕ → List Event → Type 0
SpellsAll text [] = text ≡ []
SpellsAll text (e ∷ events) =
    (first : List ℕ) × Spells first e × ((rest : List ℕ) × SpellsAll rest events × (text ≡ first ++ rest))

-- the text is the line that opens a script: how many threads, locks and conditions there are, and how
-- many permits each semaphore has
abbrev pub Opening : List ℕ → ℕ → ℕ → ℕ → List ℕ → Type 0
Opening text threads locks conds permits = IsLine (codes "open") (threads ∷ locks ∷ conds ∷ permits) text

-- the text is a first line and lines that spell these events, no more than a script may have
pub record SpellsScript (text : List ℕ) (threads locks conds : ℕ) (permits : List ℕ) (events : List Event) : Type 0 where
  pub first : List ℕ
  pub rest : List ℕ
  pub opens : Opening first threads locks conds permits
  pub each : SpellsAll rest events
  pub few : length events < MAX_LINES
  pub parts : text ≡ first ++ rest

-- no line that opens a script stands at the front
abbrev pub NoOpening : List ℕ → Type 0
NoOpening text = (n l c : ℕ) (ps first more : List ℕ) → Opening first n l c ps → text ≡ first ++ more → ⊥

-- the lines before a bad line spell a script, and this stands from there on
pub record GoodUntil (text : List ℕ) (number : ℕ) (rest : List ℕ) : Type 0 where
  pub good : List ℕ
  pub threads : ℕ
  pub locks : ℕ
  pub conds : ℕ
  pub permits : List ℕ
  pub events : List Event
  pub spells : SpellsScript good threads locks conds permits events
  pub parts : text ≡ good ++ rest
  pub count : number ≡ length events + 2

-- line `number`, counted from 1, is the first that is not as said: it is no line of a script, or it
-- is one past the last that a script may have
abbrev pub IsFirstBad : List ℕ → ℕ → Type 0
IsFirstBad text number =
    ((number ≡ 1) × NoOpening text)
    ⊎ ((rest : List ℕ) × GoodUntil text number rest × (rest ≢ []) × (NoEvent rest ⊎ (number ≡ MAX_LINES + 1)))

-- the text spells a script, and memory is wanted to keep it: of a semaphore the permits, or an event
pub record WantsMemory (text : List ℕ) : Type 0 where
  pub threads : ℕ
  pub locks : ℕ
  pub conds : ℕ
  pub permits : List ℕ
  pub events : List Event
  pub spells : SpellsScript text threads locks conds permits events
  pub some : 0 < length permits + length events

-- what reading a text answers: an accepted script has the numbers and the events that the text's lines
-- spell
abbrev pub Reads : List ℕ → Result Script ScriptFault → Type 0
Reads text (Ok s) = SpellsScript text s.threads s.locks s.conds s.permits.items s.events.items
Reads text (Err (BadLine number)) = IsFirstBad text number
Reads text (Err NoMemory) = WantsMemory text
