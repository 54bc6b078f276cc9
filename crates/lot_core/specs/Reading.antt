-- Reading a script from left to right.
use Rattle.std.specs.Prelude.{◌≡◌, ◌≢◌, ℕ, ◌+◌, ◌<◌, ◌⊎◌, List, [], ◌∷◌, ◌++◌, length, Some}
use Rattle.lot_events.specs.declared.events.Event.{Event}
use Rattle.lot_core.specs.declared.script.TheConstants.{MAX_LINES}
use Rattle.lot_core.specs.Script.{SpellsAll, NoEvent}
unfoldable pub use Rattle.lot_events.specs.Reading.{
  rest_behind,
  one_more,
  three_more,
  number_at,
  field_at,
  flag_at,
  end_at,
  first_of,
  last_at,
  event_at,
  open_at,
}
pub use Rattle.lot_events.specs.Reading.{kind_word, kinds, or_else}

-- these numbers are read one after the other, and this is left
abbrev pub ReadsNumbers : List ℕ → List ℕ → List ℕ → Type 0
ReadsNumbers text [] rest = text ≡ rest
ReadsNumbers text (n ∷ numbers) rest =
    (behind : List ℕ) × (field_at text ≡ Some (n, behind)) × ReadsNumbers behind numbers rest

-- lines that spell these events stand at the front, and `rest` behind them
pub record SpellsFront (text : List ℕ) (events : List Event) (rest : List ℕ) : Type 0 where
  pub lines : List ℕ
  pub each : SpellsAll lines events
  pub parts : text ≡ lines ++ rest

-- these may be all lines from the second on
abbrev pub AreGoodLines : List ℕ → Type 0
AreGoodLines lines = (events : List Event) × SpellsFront lines events [] × (length events < MAX_LINES)

-- from the second line on, line `number` of the script is the first that is not as said
pub record IsBadLine (lines : List ℕ) (number : ℕ) : Type 0 where
  pub events : List Event
  pub rest : List ℕ
  pub front : SpellsFront lines events rest
  pub few : length events < MAX_LINES
  pub count : number ≡ length events + 2
  pub some : rest ≢ []
  pub why : NoEvent rest ⊎ (number ≡ MAX_LINES + 1)
