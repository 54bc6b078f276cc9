-- What a journal is seen as, how it grows, what of it belongs to a thread, and what a call does.
use Rattle.std.specs.Prelude.{◌≡◌, ◌≢◌, ◌==◌, ◌++◌, ℕ, List, [], ◌∷◌, refl}
use Rattle.std.specs.List.{filter, All}
use Rattle.std.proofs.Common.{sym, ap, ◌∙◌, append_assoc}
use Rattle.std.proofs.lemmas.List.{append-nil}
use mathlib.Core.List.{IsPrefix}
use Rattle.lot_journal.specs.declared.entry.Entry.{Entry}
use Rattle.lot_journal.specs.Legal.{IsLegal}

-- the object that it began with, the entries of all calls in order, and the object now
pub record JournalView (O C R : Type 0) : Type 0 where
  pub opening : O
  pub history : List (Entry C R)
  pub object : O

module _ {O C R : Type 0} where
  -- A journal grows by calls at its end: it has the same opening object, and the old history is a beginning of the new.
  pub record GoesOn (old new : JournalView O C R) : Type 0 where
    pub opening : new.opening ≡ old.opening
    pub history : IsPrefix old.history new.history

  -- what belongs to a thread: the list of its own entries
  abbrev pub calls_of : ℕ → JournalView O C R → List (Entry C R)
  calls_of thread journal = filter (λ entry. entry.thread == thread) journal.history

  -- it has grown by calls of other threads alone
  pub record OnlyOthersCalled (thread : ℕ) (old new : JournalView O C R) : Type 0 where
    pub more : List (Entry C R)
    pub history : new.history ≡ old.history ++ more
    pub others : All (λ entry. entry.thread ≢ thread) more

  pub goes_on_itself : (x : JournalView O C R) → GoesOn x x
  goes_on_itself x = record { opening = refl; history = ([], append-nil x.history) }

  pub goes_on_on : (x y z : JournalView O C R) → GoesOn x y → GoesOn y z → GoesOn x z
  goes_on_on x y z a b = record {
    opening = b.opening ∙ a.opening;
    history = (
      a.history.0 ++ b.history.0,
      sym (append_assoc x.history a.history.0 b.history.0)
          ∙ (ap (λ h. h ++ b.history.0) a.history.1 ∙ b.history.1),
    );
  }

module _ {O C R : Type 0} (after : O → C → O) (reply : O → C → R) where
  -- what a journal keeps: its history is legal from its opening object to its object
  abbrev pub IsLegalJournal : JournalView O C R → Type 0
  IsLegalJournal journal = IsLegal after reply journal.opening journal.history journal.object

  -- A call: it is answered as the object of one thread answers it, the object is the one after it, and exactly its
  -- entry is new.
  pub record IsCalled (old : JournalView O C R) (thread : ℕ) (call : C) (answer : R) (new : JournalView O C R) : Type 0 where
    pub answered : answer ≡ reply old.object call
    pub object : new.object ≡ after old.object call
    pub history : new.history ≡ old.history ++ record { thread = thread; call = call; reply = answer } ∷ []
    pub opening : new.opening ≡ old.opening
