-- Which lines spell an event.
use Rattle.std.specs.Prelude.{◌≡◌, ℕ, ◌<◌, ◌⊎◌, Bool, true, false, List, [], ◌∷◌, ◌++◌, codes, decimal, flat_map}
use Rattle.std.specs.List.{AllByRecursion}
use Rattle.lot_events.specs.declared.events.Event.{Event}
use Rattle.lot_events.specs.declared.events.Event.TheVariants.{Try, Take, Mark, Park, Free, Pass, Enlist, Look, Call, Lower, Sweep, SemTake}
use Rattle.lot_events.specs.declared.events.Event.TheVariants.{SemMark, SemPark, SemFree, SemPass, SemClear}

-- a truth value as a number
abbrev pub bit : Bool → ℕ
bit true = 1
bit false = 0

-- a space and a number
abbrev pub field : ℕ → List ℕ
field n = 32 ∷ decimal n

-- a word, the numbers behind it, and LF
abbrev pub line : List ℕ → List ℕ → List ℕ
line word numbers = word ++ (flat_map field numbers ++ 10 ∷ [])

-- a number that has a spelling: one to four digits
abbrev pub IsSmall : ℕ → Type 0
IsSmall n = n < 10000

-- the text is the line of this word and these numbers
pub record IsLine (word numbers text : List ℕ) : Type 0 where
  pub small : AllByRecursion IsSmall numbers
  pub text_is : text ≡ line word numbers

-- the line spells the event; a Call of one thread has two spellings
abbrev pub Spells : List ℕ → Event → Type 0
Spells text (Try t l) = IsLine (codes "try") (t ∷ l ∷ []) text
Spells text (Take t l) = IsLine (codes "take") (t ∷ l ∷ []) text
Spells text (Mark t l) = IsLine (codes "mark") (t ∷ l ∷ []) text
Spells text (Park t l) = IsLine (codes "park") (t ∷ l ∷ []) text
Spells text (Free t l) = IsLine (codes "free") (t ∷ l ∷ []) text
Spells text (Pass t l fair more) = IsLine (codes "pass") (t ∷ l ∷ bit fair ∷ bit more ∷ []) text
Spells text (Enlist t c l) = IsLine (codes "enlist") (t ∷ c ∷ l ∷ []) text
Spells text (Look t c) = IsLine (codes "look") (t ∷ c ∷ []) text
Spells text (Call t c n more) =
    IsLine (codes "some") (t ∷ c ∷ n ∷ bit more ∷ []) text
    ⊎ ((n ≡ 1) × IsLine (codes "call") (t ∷ c ∷ bit more ∷ []) text)
Spells text (Lower t c) = IsLine (codes "lower") (t ∷ c ∷ []) text
Spells text (Sweep t c) = IsLine (codes "sweep") (t ∷ c ∷ []) text
Spells text (SemTake t k) = IsLine (codes "stake") (t ∷ k ∷ []) text
Spells text (SemMark t k) = IsLine (codes "smark") (t ∷ k ∷ []) text
Spells text (SemPark t k) = IsLine (codes "spark") (t ∷ k ∷ []) text
Spells text (SemFree t k) = IsLine (codes "sfree") (t ∷ k ∷ []) text
Spells text (SemPass t k more) = IsLine (codes "spass") (t ∷ k ∷ bit more ∷ []) text
Spells text (SemClear t k) = IsLine (codes "sclear") (t ∷ k ∷ []) text

-- a line that spells e stands at the front, and `rest` behind it
abbrev pub BeginsWith : List ℕ → Event → List ℕ → Type 0
BeginsWith text e rest = (first : List ℕ) × Spells first e × (text ≡ first ++ rest)

-- no line of an event stands at the front
abbrev pub NoEvent : List ℕ → Type 0
NoEvent text = (e : Event) (first more : List ℕ) → Spells first e → text ≡ first ++ more → ⊥
