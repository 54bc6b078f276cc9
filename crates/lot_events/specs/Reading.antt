-- Reading a line from left to right.
use Rattle.std.specs.Prelude.{ℕ, ◌+◌, ◌-◌, ◌*◌, nat_lt, ◌==◌, Bool, if◌then◌else◌, List, [], ◌∷◌, length, take, drop, codes, bytes_eq}
use Rattle.std.specs.Prelude.{Option, Some, None}
use Rattle.std.specs.Option.{option_and_then}
use Rattle.std.specs.Char.{is_ascii_digit}
use Rattle.lot_events.specs.declared.events.Event.{Event}
use Rattle.lot_events.specs.declared.events.Event.TheVariants as event
use Rattle.lot_events.specs.declared.reading.Kind.{Kind}
use Rattle.lot_events.specs.declared.reading.Kind.TheVariants.{Try, Take, Mark, Park, Free, Pass, Enlist, Look, Call, CallSome, Lower}
use Rattle.lot_events.specs.declared.reading.Kind.TheVariants.{Sweep, SemTake, SemMark, SemPark, SemFree, SemPass, SemClear}

infixl 10 ◌>>=◌
abbrev pub ◌>>=◌ : {A B : Type 0} → Option A → (A → Option B) → Option B
o >>= f = option_and_then f o

-- what stands behind this word
unfoldable pub rest_behind : List ℕ → List ℕ → Option (List ℕ)
rest_behind word text =
    if bytes_eq (take (length word) text) word then Some (drop (length word) text) else None

-- one more digit of a number, if there is one
unfoldable pub one_more : ℕ → List ℕ → ℕ × List ℕ
one_more n [] = (n, [])
one_more n (digit ∷ rest) =
    if is_ascii_digit digit then (10 * n + (digit - 48), rest) else (n, digit ∷ rest)

-- up to three more
unfoldable pub three_more : ℕ → List ℕ → ℕ × List ℕ
three_more n text =
    let one = one_more n text in
    let two = one_more one.0 one.1 in
    one_more two.0 two.1

-- `0`, or one to four digits of which the first is not `0`
unfoldable pub number_at : List ℕ → Option (ℕ × List ℕ)
number_at [] = None
number_at (digit ∷ rest) =
    if digit == 48 then Some (0, rest)
    else (if is_ascii_digit digit then Some (three_more (digit - 48) rest) else None)

unfoldable pub field_at : List ℕ → Option (ℕ × List ℕ)
field_at [] = None
field_at (byte ∷ rest) = if byte == 32 then number_at rest else None

unfoldable pub flag_at : List ℕ → Option (Bool × List ℕ)
flag_at text = do
  n ← field_at text
  if nat_lt n.0 2 then Some (n.0 == 1, n.1) else None

unfoldable pub end_at : List ℕ → Option (List ℕ)
end_at [] = None
end_at (byte ∷ rest) = if byte == 10 then Some rest else None

abbrev pub kind_word : Kind → List ℕ
kind_word Try = codes "try"
kind_word Take = codes "take"
kind_word Mark = codes "mark"
kind_word Park = codes "park"
kind_word Free = codes "free"
kind_word Pass = codes "pass"
kind_word Enlist = codes "enlist"
kind_word Look = codes "look"
kind_word Call = codes "call"
kind_word CallSome = codes "some"
kind_word Lower = codes "lower"
kind_word Sweep = codes "sweep"
kind_word SemTake = codes "stake"
kind_word SemMark = codes "smark"
kind_word SemPark = codes "spark"
kind_word SemFree = codes "sfree"
kind_word SemPass = codes "spass"
kind_word SemClear = codes "sclear"

abbrev pub kinds : List Kind
kinds =
    Try ∷ Take ∷ Mark ∷ Park ∷ Free ∷ Pass ∷ Enlist ∷ Look ∷ Call ∷ CallSome ∷ Lower ∷ Sweep
    ∷ SemTake ∷ SemMark ∷ SemPark ∷ SemFree ∷ SemPass ∷ SemClear ∷ []

-- the first of these kinds whose word stands at the front
abbrev pub or_else : Kind → Option (List ℕ) → Option (Kind × List ℕ) → Option (Kind × List ℕ)
or_else k (Some rest) others = Some (k, rest)
or_else k None others = others

unfoldable pub first_of : List Kind → List ℕ → Option (Kind × List ℕ)
first_of [] text = None
first_of (k ∷ ks) text = or_else k (rest_behind (kind_word k) text) (first_of ks text)

-- the event of this kind, thread and key, with its further numbers
unfoldable pub last_at : Kind → ℕ → ℕ → List ℕ → Option (Event × List ℕ)
last_at Try t k text = Some (event.Try t k, text)
last_at Take t k text = Some (event.Take t k, text)
last_at Mark t k text = Some (event.Mark t k, text)
last_at Park t k text = Some (event.Park t k, text)
last_at Free t k text = Some (event.Free t k, text)
last_at Pass t k text = do
  fair ← flag_at text
  more ← flag_at fair.1
  Some (event.Pass t k fair.0 more.0, more.1)
last_at Enlist t k text = do
  lock ← field_at text
  Some (event.Enlist t k lock.0, lock.1)
last_at Look t k text = Some (event.Look t k, text)
last_at Call t k text = do
  more ← flag_at text
  Some (event.Call t k 1 more.0, more.1)
last_at CallSome t k text = do
  count ← field_at text
  more ← flag_at count.1
  Some (event.Call t k count.0 more.0, more.1)
last_at Lower t k text = Some (event.Lower t k, text)
last_at Sweep t k text = Some (event.Sweep t k, text)
last_at SemTake t k text = Some (event.SemTake t k, text)
last_at SemMark t k text = Some (event.SemMark t k, text)
last_at SemPark t k text = Some (event.SemPark t k, text)
last_at SemFree t k text = Some (event.SemFree t k, text)
last_at SemPass t k text = do
  more ← flag_at text
  Some (event.SemPass t k more.0, more.1)
last_at SemClear t k text = Some (event.SemClear t k, text)

unfoldable pub event_at : List ℕ → Option (Event × List ℕ)
event_at text = do
  kind ← first_of kinds text
  thread ← field_at kind.1
  key ← field_at thread.1
  e ← last_at kind.0 thread.0 key.0 key.1
  rest ← end_at e.1
  Some (e.0, rest)

-- the numbers of threads, locks and conditions that open a script
unfoldable pub open_at : List ℕ → Option (ℕ × ℕ × ℕ × List ℕ)
open_at text = do
  behind ← rest_behind (codes "open") text
  threads ← field_at behind
  locks ← field_at threads.1
  conds ← field_at locks.1
  Some (threads.0, locks.0, conds.0, conds.1)
