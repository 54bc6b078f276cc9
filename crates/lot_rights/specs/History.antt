-- Histories: which accesses were made, the oldest first, and with which rights. An access is an event of the model, or
-- a notice: a letter posted or looked for, what a word really was, or what was counted.
use Rattle.std.specs.Prelude.{◌≡◌, ◌≢◌, ℕ, ◌+◌, ◌*◌, ◌==◌, cond, List, [], ◌∷◌, ◌++◌, length, sum_by, Some, None}
use Rattle.lot_core.specs.Model.{put}
use Rattle.lot_events.specs.declared.events.Event.{Event}
use Rattle.lot_events.specs.declared.events.Event.TheVariants.{Try, Take, Mark, Park, Free, Pass, Enlist, Look, Call, Lower, Sweep, SemTake}
use Rattle.lot_events.specs.declared.events.Event.TheVariants.{SemMark, SemPark, SemFree, SemPass, SemClear}
use Rattle.lot_events.specs.declared.events.Seen.{Seen}
use Rattle.lot_events.specs.declared.events.Seen.TheVariants.{Sleeper, Count}
use Rattle.lot_rights.specs.declared.views.Access.{Access}
use Rattle.lot_rights.specs.declared.views.Access.TheVariants.{Makes, Posts, Collects, Finds, Counts}
use Rattle.lot_rights.specs.declared.views.Entry.{Entry}
use Rattle.lot_rights.specs.Seating.{times_in, Seated}
use Rattle.lot_rights.specs.World.{number_of}

-- whose event it is
abbrev pub maker : Event → ℕ
maker (Try t l) = t
maker (Take t l) = t
maker (Mark t l) = t
maker (Park t l) = t
maker (Free t l) = t
maker (Pass t l fair more) = t
maker (Enlist t c l) = t
maker (Look t c) = t
maker (Call t c n more) = t
maker (Lower t c) = t
maker (Sweep t c) = t
maker (SemTake t k) = t
maker (SemMark t k) = t
maker (SemPark t k) = t
maker (SemFree t k) = t
maker (SemPass t k more) = t
maker (SemClear t k) = t

-- the number of the right with which the access was made: a thread's pass, or a key's root
abbrev pub doer : Access → ℕ
doer (Makes e saw) = 2 * maker e
doer (Posts c t token) = 2 * c + 1
doer (Collects t found) = 2 * t
doer (Finds t c x) = 2 * t
doer (Counts t c told handed waiting) = 2 * t

-- the entries of the right with the number i
abbrev pub entries_of : ℕ → List Entry → List Entry
entries_of i [] = []
entries_of i (x ∷ xs) = cond (doer x.access == i) (x ∷ entries_of i xs) (entries_of i xs)

-- ---- what accesses do
-- what the words of a table tell: a part of the model's state, and the number in each thread's letter, which is 0 for
-- none and else its token and 1
pub record Telling (P : Type 0) : Type 0 where
  pub part : P
  pub letters : ℕ → ℕ

-- no letter lies, as at the opening
abbrev pub no_letters : {P : Type 0} → P → Telling P
no_letters a = record { part = a; letters = λ t. 0 }

module _ {P : Type 0} (Step : P → Event → Seen → P → Type 0) (word_in waiting_in : P → ℕ → ℕ) where
  -- what the words told when the access was made, and what they tell then
  abbrev pub Happens : Telling P → Access → Telling P → Type 0
  Happens a (Makes e saw) b = Step a.part e saw b.part × (b.letters ≡ a.letters)
  Happens a (Posts c t token) b = (a.letters t ≡ 0) × (b ≡ record a { letters = put a.letters t (token + 1) })
  Happens a (Collects t None) b = (a.letters t ≡ 0) × (b ≡ a)
  Happens a (Collects t (Some token)) b = (a.letters t ≡ token + 1) × (b ≡ record a { letters = put a.letters t 0 })
  Happens a (Finds t c x) b = (x ≡ word_in a.part c) × (b ≡ a)
  Happens a (Counts t c told handed waiting) b = (waiting ≡ waiting_in a.part c) × (b ≡ a)

module _ {P : Type 0} (IsQueued : P → ℕ → Type 0) where
  -- no letter lies for a thread that is in a line
  abbrev pub NoLetterInLine : Telling P → Type 0
  NoLetterInLine a = (t : ℕ) → IsQueued a.part t → a.letters t ≡ 0

-- A history goes on by an access: it happens, and no letter lies then for a thread that is in a line. So who is in a
-- line is posted a letter, and collects one, only after an event that took it from there
module _ {P : Type 0} (Step : P → Event → Seen → P → Type 0) (word_in waiting_in : P → ℕ → ℕ) (IsQueued : P → ℕ → Type 0) where
  abbrev pub Continues : Telling P → Access → Telling P → Type 0
  Continues a x b = Happens Step word_in waiting_in a x b × NoLetterInLine IsQueued b

-- ---- what was counted
-- 1 of the token with which a lock is handed over, 0 of any other
abbrev pub one_if_handoff : ℕ → ℕ
one_if_handoff token = cond (token == 1) 1 0

-- how many of these entries handed a lock over
abbrev pub handed_by : Access → ℕ
handed_by (Makes e saw) = 0
handed_by (Posts c t token) = one_if_handoff token
handed_by (Collects t found) = 0
handed_by (Finds t c x) = 0
handed_by (Counts t c told handed waiting) = 0

abbrev pub handed_in : List Entry → ℕ
handed_in made = sum_by (λ (x : Entry). handed_by x.access) made

-- the entries by which threads were told that they were taken from the line of this key
abbrev pub tokens_of : ℕ → List Entry → List Entry
tokens_of key log = entries_of (2 * key + 1) log

-- of an event that takes threads from a line: how many it was seen to take
abbrev pub number_seen : Seen → ℕ
number_seen (Sleeper t) = number_of t
number_seen (Count n) = n
number_seen _ = 0

-- how many threads the event took from the line of the key c
abbrev pub taken_at : ℕ → Event → Seen → ℕ
taken_at c (Pass t l fair more) saw = cond (c == l) (number_seen saw) 0
taken_at c (Call t d n more) saw = cond (c == d) (number_seen saw) 0
taken_at c (Sweep t d) saw = cond (c == d) (number_seen saw) 0
taken_at c (SemPass t k more) saw = cond (c == k) (number_seen saw) 0
taken_at c _ saw = 0

-- how many the access took from there, and how many it told that they were taken from there
abbrev pub taken_by : ℕ → Access → ℕ
taken_by c (Makes e saw) = taken_at c e saw
taken_by c _ = 0

abbrev pub tokens_by : ℕ → Access → ℕ
tokens_by c (Posts d t token) = cond (c == d) 1 0
tokens_by c _ = 0

abbrev pub taken_in : ℕ → List Entry → ℕ
taken_in c log = sum_by (λ (x : Entry). taken_by c x.access) log

-- where the access counts, it tells how many threads were told by the entries before it that they were taken from the
-- line of its key: all that were taken from there; and how many of them were handed the lock
abbrev pub CountsRight : List Entry → Access → Type 0
CountsRight before (Counts t c told handed waiting) =
    (told ≡ length (tokens_of c before)) × (handed ≡ handed_in (tokens_of c before)) × (taken_in c before ≡ told)
CountsRight before _ = Unit {0}

-- each access that counts tells of the entries before it
abbrev pub AllCountRight : List Entry → List Entry → Type 0
AllCountRight before [] = Unit {0}
AllCountRight before (x ∷ xs) = CountsRight before x.access × AllCountRight (before ++ x ∷ []) xs

-- ---- the log
-- its accesses, of which k were made before, lead from a to b, each at its place and from what the ones before it have
-- led to
module _ {S : Type 0} (Leads : S → Access → S → Type 0) where
  abbrev pub Run : S → ℕ → List Entry → S → Type 0
  Run a k [] b = b ≡ a
  Run a k (x ∷ xs) b = (x.at ≡ k) × ((c : S) × (Leads a x.access c × Run c (k + 1) xs b))

-- the log without its notices
abbrev pub with_event : Access → List (Event × Seen) → List (Event × Seen)
with_event (Makes e saw) es = (e, saw) ∷ es
with_event (Posts c t token) es = es
with_event (Collects t found) es = es
with_event (Finds t c x) es = es
with_event (Counts t c told handed waiting) es = es

abbrev pub events_in : List Entry → List (Event × Seen)
events_in [] = []
events_in (x ∷ xs) = with_event x.access (events_in xs)

-- these events are a run of the model's part from a to b
module _ {P : Type 0} (Step : P → Event → Seen → P → Type 0) where
  abbrev pub ModelRun : P → List (Event × Seen) → P → Type 0
  ModelRun a [] b = b ≡ a
  ModelRun a (x ∷ xs) b = (c : P) × (Step a x.0 x.1 c × ModelRun c xs b)

-- a right has its own number, and shows the entries that were made with it
module _ {R : Type 0} (number : R → ℕ) (made : R → List Entry) where
  abbrev pub Noted : List Entry → R → Type 0
  Noted log r = made r ≡ entries_of (number r) log

  -- rights of the same numbers, with the same entries
  abbrev pub SameMade : List R → List R → Type 0
  SameMade [] [] = Unit {0}
  SameMade (r ∷ rs) (q ∷ qs) = (number q ≡ number r) × (made q ≡ made r) × SameMade rs qs
  SameMade _ _ = ⊥

  -- the entries that the right with the number i shows, wherever it is
  abbrev pub shown_at : ℕ → List R → List Entry
  shown_at i [] = []
  shown_at i (r ∷ rs) = cond (number r == i) (made r) [] ++ shown_at i rs

  abbrev pub shown_in : ℕ → List (List R) → List Entry
  shown_in i [] = []
  shown_in i (v ∷ vs) = shown_at i v ++ shown_in i vs

  -- each right shows in ws what it shows in vs, wherever it is
  abbrev pub SameShown : List (List R) → List (List R) → Type 0
  SameShown vs ws = (i : ℕ) → shown_in i ws ≡ shown_in i vs

  -- the right that made the entry x shows it in ws, after what it shows in vs; each other shows what it shows in vs
  pub record OneMoreShown (vs : List (List R)) (x : Entry) (ws : List (List R)) : Type 0 where
    pub more : shown_in (doer x.access) ws ≡ shown_in (doer x.access) vs ++ x ∷ []
    pub same : (i : ℕ) → i ≢ doer x.access → shown_in i ws ≡ shown_in i vs

  -- each right has its entries, and with a right that is nowhere nothing was made
  pub record Listed (log : List Entry) (views : List (List R)) : Type 0 where
    pub told : Seated number (Noted log) views
    pub known : (i : ℕ) → times_in number i views ≡ 0 → entries_of i log ≡ []

  -- the log leads from `first` to b, what it counts is so, and the rights have its entries
  pub record Recorded {S : Type 0} (Leads : S → Access → S → Type 0) (first : S) (log : List Entry)
      (views : List (List R)) (b : S) : Type 0 where
    pub run : Run Leads first 0 log b
    pub counted : AllCountRight [] log
    pub listed : Listed log views
