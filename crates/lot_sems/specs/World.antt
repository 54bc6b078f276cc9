-- What the words, the passes and the roots of a table of semaphore words stand for: the semaphore part of the model
-- itself, and where each notice is.
use Rattle.std.specs.Prelude.{◌≡◌, ℕ, ◌+◌, ◌*◌, ◌<◌, Bool, true, false, List, length, slice_index, Option, Some}
use Rattle.std.specs.List.{Contains}
use Rattle.lot_core.specs.Parts.{SemaphorePart, IsAmongSemaphores}
use Rattle.lot_core.specs.Rows.{row_from}
use Rattle.lot_core.specs.Sums.{bit}
use Rattle.lot_rights.specs.World.{World, Spot, awake, queued, owed, lying, Sizes, WordsFit}
use Rattle.lot_sems.specs.declared.start.Start.{Start}
use Rattle.lot_sems.specs.declared.views.SemPassView.{SemPassView}
use Rattle.lot_sems.specs.declared.views.SemRootView.{SemRootView}

-- how many threads there are, the number of the first semaphore, and how many permits each has at the opening
pub record Numbers : Type 0 where
  pub threads : ℕ
  pub first_sem : ℕ
  pub permits : List ℕ

abbrev pub numbers : Start → Numbers
numbers start = record { threads = start.threads; first_sem = start.first_sem; permits = start.permits.value.items }

abbrev pub key_count : Numbers → ℕ
key_count size = size.first_sem + length size.permits

abbrev pub sizes_of : Numbers → Sizes
sizes_of size = record { threads = size.threads; first = size.first_sem; keys = length size.permits }

-- k is the number of a semaphore
abbrev pub IsAmong : Numbers → ℕ → Type 0
IsAmong size k = IsAmongSemaphores size.first_sem (length size.permits) k

-- how many permits it has at the opening
abbrev pub permits_of : Numbers → ℕ → ℕ
permits_of size = row_from 0 size.first_sem size.permits

-- the part of the model, where each thread's notice is, and of each semaphore the thread to whom its root owes a letter
pub record SemWorld : Type 0 where
  pub part : SemaphorePart
  pub spot : ℕ → Spot
  pub owes : ℕ → Option ℕ

-- ---- words
abbrev pub word_of : ℕ → Bool → ℕ
word_of left parked = 2 * left + bit parked

abbrev pub word_in : SemaphorePart → ℕ → ℕ
word_in a k = word_of (a.sems.left k) (a.sems.parked k)

-- how many threads are in a semaphore's line
abbrev pub waiting_in : SemaphorePart → ℕ → ℕ
waiting_in a k = length (a.sems.line k)

-- what the words of any table tell of this one's
abbrev pub told_in : SemWorld → World (Unit {0}) (Unit {0}) ℕ
told_in w = record { pass = λ t. tt; spot = w.spot; word = word_in w.part; root = λ k. tt }

abbrev pub SemWordsFit : Numbers → SemWorld → List ℕ → Type 0
SemWordsFit size w ws = WordsFit (λ n. n) (sizes_of size) (told_in w) ws

-- ---- letters
-- the thread was queued, and has not collected its letter
abbrev pub sleeps : Spot → Bool
sleeps awake = false
sleeps (queued k) = true
sleeps (owed k token) = true
sleeps (lying k token) = true

module _ (n : ℕ) (line : ℕ → List ℕ) (seeks : ℕ → Option ℕ) (owes : ℕ → Option ℕ) where
  -- a thread that was queued and has not collected is in its semaphore's line, or has exactly one letter, owed or
  -- lying; all tokens are 0
  abbrev pub NoticeFits : ℕ → Spot → Type 0
  NoticeFits t awake = Unit {0}
  NoticeFits t (queued k) = Contains (line k) t
  NoticeFits t (owed k token) = (t < n) × (seeks t ≡ Some k) × (owes k ≡ Some t) × (token ≡ 0)
  NoticeFits t (lying k token) = (t < n) × (seeks t ≡ Some k) × (token ≡ 0)

  pub record NoticesFit (spot : ℕ → Spot) : Type 0 where
    pub fits : (t : ℕ) → NoticeFits t (spot t)
    pub in_line : (t k : ℕ) → Contains (line k) t → spot t ≡ queued k
    pub is_owed : (t k : ℕ) → owes k ≡ Some t → spot t ≡ owed k 0

abbrev pub LettersFit : ℕ → SemWorld → Type 0
LettersFit n w = NoticesFit n w.part.sems.line w.part.seeks w.owes w.spot

-- ---- rights
-- the pass of the thread t tells the model's part of that thread
pub record PassKnows (size : Numbers) (w : SemWorld) (t : ℕ) (p : SemPassView) : Type 0 where
  pub near : t < size.threads
  pub seeks : w.part.seeks t ≡ p.seeks
  pub asleep : sleeps (w.spot t) ≡ p.asleep
  pub long : length p.out ≡ key_count size
  pub out : (k : ℕ) → w.part.sems.out k t ≡ slice_index p.out k

-- the root of k tells the model's line, and whose letter it owes
abbrev pub RootKnows : Numbers → SemWorld → ℕ → SemRootView → Type 0
RootKnows size w k q = IsAmong size k × (w.part.sems.line k ≡ q.line) × (w.owes k ≡ q.owes)
