-- The text of a witness: a script's first line, and lines that end in what was seen.
use Rattle.std.specs.Prelude.{◌≡◌, ◌≢◌, ℕ, ◌+◌, ◌<◌, ◌⊎◌, true, false, List, [], ◌∷◌, ◌++◌, length, codes, Result, Ok, Err, Some, None}
use Rattle.lot_events.specs.declared.events.Event.{Event}
use Rattle.lot_events.specs.declared.events.Event.TheVariants.{Try, Take, Mark, Park, Free, Pass, Enlist, Look, Call, Lower, Sweep, SemTake}
use Rattle.lot_events.specs.declared.events.Event.TheVariants.{SemMark, SemPark, SemFree, SemPass, SemClear}
use Rattle.lot_events.specs.declared.events.Seen.{Seen}
use Rattle.lot_events.specs.declared.events.Seen.TheVariants.{Bool as Saw, Done, Sleeper, Count}
use Rattle.lot_events.specs.Spelling.{field, IsSmall, Spells}
use Rattle.lot_core.specs.declared.script.TheConstants.{MAX_LINES}
use Rattle.lot_core.specs.declared.script.ScriptFault.{ScriptFault}
use Rattle.lot_core.specs.declared.script.ScriptFault.TheVariants.{BadLine, NoMemory}
use Rattle.lot_core.specs.Script.{Opening, NoOpening}
use Rattle.lot_witness.specs.declared.witness.Sighting.{Sighting}
use Rattle.lot_witness.specs.declared.witness.Witness.{Witness}

-- a space, and what was seen
abbrev pub told : Seen → List ℕ
told (Saw true) = codes " true"
told (Saw false) = codes " false"
told Done = codes " done"
told (Sleeper None) = codes " -"
told (Sleeper (Some t)) = field t
told (Count n) = field n

-- what kinds of sight there are, each with small numbers
abbrev pub TellsTruth : Seen → Type 0
TellsTruth (Saw b) = Unit {0}
TellsTruth _ = ⊥

abbrev pub TellsNothing : Seen → Type 0
TellsNothing Done = Unit {0}
TellsNothing _ = ⊥

abbrev pub TellsSleeper : Seen → Type 0
TellsSleeper (Sleeper None) = Unit {0}
TellsSleeper (Sleeper (Some t)) = IsSmall t
TellsSleeper _ = ⊥

abbrev pub TellsNumber : Seen → Type 0
TellsNumber (Count n) = IsSmall n
TellsNumber _ = ⊥

-- an event of this kind can see that
abbrev pub IsSightOf : Event → Seen → Type 0
IsSightOf (Try t l) = TellsTruth
IsSightOf (Take t l) = TellsTruth
IsSightOf (Mark t l) = TellsNothing
IsSightOf (Park t l) = TellsTruth
IsSightOf (Free t l) = TellsTruth
IsSightOf (Pass t l fair more) = TellsSleeper
IsSightOf (Enlist t c l) = TellsNothing
IsSightOf (Look t c) = TellsTruth
IsSightOf (Call t c n more) = TellsNumber
IsSightOf (Lower t c) = TellsNothing
IsSightOf (Sweep t c) = TellsNumber
IsSightOf (SemTake t k) = TellsTruth
IsSightOf (SemMark t k) = TellsNothing
IsSightOf (SemPark t k) = TellsTruth
IsSightOf (SemFree t k) = TellsTruth
IsSightOf (SemPass t k more) = TellsSleeper
IsSightOf (SemClear t k) = TellsNothing

-- the text is a line that spells the event, with what was seen before the line's end
pub record SpellsSighting (text : List ℕ) (x : Sighting) : Type 0 where
  pub front : List ℕ
  pub spells : Spells (front ++ 10 ∷ []) x.event
  pub sight : IsSightOf x.event x.saw
  pub parts : text ≡ front ++ (told x.saw ++ 10 ∷ [])

-- such a line stands at the front, and `rest` behind it
abbrev pub BeginsWith : List ℕ → Sighting → List ℕ → Type 0
BeginsWith text x rest = (first : List ℕ) × SpellsSighting first x × (text ≡ first ++ rest)

-- no such line stands at the front
abbrev pub NoSighting : List ℕ → Type 0
NoSighting text = (x : Sighting) (rest : List ℕ) → ¬ BeginsWith text x rest

-- such lines stand at the front, one for each, in order, and `rest` behind them
abbrev pub BeginsWithAll : List ℕ → List Sighting → List ℕ → Type 0
BeginsWithAll text [] rest = text ≡ rest
BeginsWithAll text (x ∷ xs) rest = (behind : List ℕ) × BeginsWith text x behind × BeginsWithAll behind xs rest

-- these are all lines from the second on, no more than a script may have
abbrev pub AreAll : List ℕ → List Sighting → Type 0
AreAll lines xs = BeginsWithAll lines xs [] × (length xs < MAX_LINES)

-- these may be all lines from the second on
abbrev pub AreGood : List ℕ → Type 0
AreGood lines = (xs : List Sighting) × AreAll lines xs

-- a line that opens a script stands at the front, and `lines` behind it
pub record Opens (text : List ℕ) (threads locks conds : ℕ) (permits lines : List ℕ) : Type 0 where
  pub first : List ℕ
  pub opens : Opening first threads locks conds permits
  pub parts : text ≡ first ++ lines

-- the text spells a witness
pub record SpellsWitness (text : List ℕ) (threads locks conds : ℕ) (permits : List ℕ) (xs : List Sighting) : Type 0 where
  pub lines : List ℕ
  pub opens : Opens text threads locks conds permits lines
  pub each : AreAll lines xs

-- of the lines from the second on `number` is the first that is not as said: it tells nothing, or is one too many
pub record IsBadLine (lines : List ℕ) (number : ℕ) : Type 0 where
  pub xs : List Sighting
  pub rest : List ℕ
  pub good : BeginsWithAll lines xs rest
  pub few : length xs < MAX_LINES
  pub count : number ≡ length xs + 2
  pub some : rest ≢ []
  pub why : NoSighting rest ⊎ (number ≡ MAX_LINES + 1)

-- line `number` of the text, counted from 1, is the first that is not as said
abbrev pub IsFirstBad : List ℕ → ℕ → Type 0
IsFirstBad text number =
    ((number ≡ 1) × NoOpening text)
    ⊎ ((threads locks conds : ℕ) × (permits lines : List ℕ) × Opens text threads locks conds permits lines × IsBadLine lines number)

-- the text spells a witness, and memory is wanted to keep it: of a semaphore the permits, or a sighting
pub record WantsMemory (text : List ℕ) : Type 0 where
  pub threads : ℕ
  pub locks : ℕ
  pub conds : ℕ
  pub permits : List ℕ
  pub xs : List Sighting
  pub spells : SpellsWitness text threads locks conds permits xs
  pub some : 0 < length permits + length xs

-- what reading answers: an accepted witness has the numbers and the sightings that the lines spell
abbrev pub Reads : List ℕ → Result Witness ScriptFault → Type 0
Reads text (Ok w) = SpellsWitness text w.threads w.locks w.conds w.permits.items w.sightings.items
Reads text (Err (BadLine number)) = IsFirstBad text number
Reads text (Err NoMemory) = WantsMemory text
