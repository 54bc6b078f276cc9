-- What a counter does, and which journals of it are legal.
use Rattle.std.specs.Prelude.{◌≡◌, ◌+◌, ◌%◌, ◌^◌, ◌++◌, ℕ, List, [], ◌∷◌}
use Rattle.lot_journal.specs.declared.entry.Entry.{Entry}
use Rattle.lot_journal.specs.Journal.{JournalView, IsLegalJournal, IsCalled, calls_of}
use Rattle.lot_sync.specs.Opened.{KeepAll}
use Rattle.lot_load.specs.declared.counter.Add.{Add}
use Rattle.lot_load.specs.declared.counter.Counter.{Counter}

-- adding replies the new total, modulo 2^64
abbrev pub total_after : Counter → Add → ℕ
total_after counter call = (counter.total + call.0) % 2 ^ 64

abbrev pub counter_after : Counter → Add → Counter
counter_after counter call = record { total = total_after counter call }

-- the thread called `Add` of so much: it was replied the new total, and exactly that entry is new
abbrev pub IsAdded : JournalView Counter Add ℕ → ℕ → Add → JournalView Counter Add ℕ → Type 0
IsAdded old thread call new = IsCalled counter_after total_after old thread call (total_after old.object call) new

-- of its own calls the thread has one more, with this reply
abbrev pub OwnIsMore : JournalView Counter Add ℕ → ℕ → Add → ℕ → JournalView Counter Add ℕ → Type 0
OwnIsMore old thread call answer new =
    calls_of thread new ≡ calls_of thread old ++ record { thread = thread; call = call; reply = answer } ∷ []

-- the thread's call is in the history, behind all that it had seen of it; and once, since of its own calls it has those
-- and this one
pub record IsThere (thread : ℕ) (call : Add) (seen now : JournalView Counter Add ℕ) : Type 0 where
  pub answer : ℕ
  pub between : List (Entry Add ℕ)
  pub more : List (Entry Add ℕ)
  pub history : now.history ≡ (seen.history ++ between) ++ record { thread = thread; call = call; reply = answer } ∷ more
  pub once : OwnIsMore seen thread call answer now

-- the journal's history is what one counter replied
abbrev pub IsLegalCount : JournalView Counter Add ℕ → Type 0
IsLegalCount journal = IsLegalJournal counter_after total_after journal

abbrev pub AllLegal : List (JournalView Counter Add ℕ) → Type 0
AllLegal journals = KeepAll (λ key journal. IsLegalCount journal) journals
