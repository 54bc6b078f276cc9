-- The rule of a table of semaphore words: there is a world that the words and the rights stand for, and it tells the
-- semaphore part of the model, which is sound.
use Rattle.std.specs.Prelude.{◌≡◌, ℕ, ◌<◌, ◌⊎◌, false, List, [], length, replicate, Some, None}
use Rattle.std.specs.List.{Contains}
use Rattle.std.proofs.Common.{sym, ap, ◌∙◌}
use Rattle.lot_core.specs.Model.{none_taken}
use Rattle.lot_events.specs.declared.events.Event.{Event}
use Rattle.lot_events.specs.declared.events.Seen.{Seen}
use Rattle.lot_core.specs.Parts.{SemaphorePart, SemaphoreStep}
use Rattle.lot_core.specs.Sound.{IsSoundSemaphorePart}
use Rattle.lot_rights.specs.Rule.{Meaning}
use Rattle.lot_rights.specs.Settled.{HasOneOutcome, LinesHaveNoLetter}
use Rattle.lot_rights.specs.World.{letter_of, letters_of, number_of, owed_at}
use Rattle.lot_sems.specs.declared.views.SemPassView.{SemPassView}
use Rattle.lot_sems.specs.declared.views.SemRootView.{SemRootView}
use Rattle.lot_sems.specs.World.{Numbers, key_count, sizes_of, permits_of, SemWorld, word_in, waiting_in, SemWordsFit, LettersFit}
use Rattle.lot_sems.specs.World.{PassKnows, RootKnows}

-- all permits are left, and nobody is marked, queued or seeking
abbrev pub opening_part : Numbers → SemaphorePart
opening_part size = record { sems = none_taken (permits_of size); seeks = λ t. None }

-- a step of the model's semaphore part, in a table of these numbers
abbrev pub IsStep : Numbers → SemaphorePart → Event → Seen → SemaphorePart → Type 0
IsStep size a e saw b = SemaphoreStep size.threads size.first_sem (length size.permits) a e saw b

-- the thread is in a semaphore's line
abbrev pub IsQueued : SemaphorePart → ℕ → Type 0
IsQueued a t = (k : ℕ) × Contains (a.sems.line k) t

-- permits are conserved, sleepers are marked, no permit is left lying, one line each
abbrev pub IsSound : Numbers → SemaphorePart → Type 0
IsSound size a = IsSoundSemaphorePart size.threads (permits_of size) a

-- the words stand for the world, whose part is sound and whose letters fit; a word has room for all permits
pub record Fits (size : Numbers) (w : SemWorld) (ws : List ℕ) : Type 0 where
  pub few : (k : ℕ) → permits_of size k < 4294967296
  pub words : SemWordsFit size w ws
  pub sound : IsSound size w.part
  pub letters : LettersFit size.threads w

-- ---- the rights at the opening, among m keys
abbrev pub fresh_pass : ℕ → SemPassView
fresh_pass m = record { seeks = None; asleep = false; out = replicate m 0 }

abbrev pub fresh_root : SemRootView
fresh_root = record { line = []; owes = None }

-- what no pass and no root knows
abbrev pub no_pass : SemPassView
no_pass = fresh_pass 0

abbrev pub no_root : SemRootView
no_root = fresh_root

-- whom a root names: those in its line, and whom it owes a letter
abbrev pub names : SemRootView → ℕ → Type 0
names q u = Contains q.line u ⊎ (q.owes ≡ Some u)

abbrev pub meaning : Numbers → Meaning (Unit {0}) SemPassView SemRootView
meaning size = record {
  World = SemWorld;
  Part = SemaphorePart;
  Fits = λ w ws hs. Fits size w ws;
  PassFits = PassKnows size;
  RootFits = RootKnows size;
  owed_in = λ w k. owed_at (sizes_of size) number_of w.owes k;
  told_by = λ w. record { part = w.part; letters = letters_of w.spot };
  start = record { part = opening_part size; letters = λ t. 0 };
  Step = IsStep size;
  word_in = word_in;
  waiting_in = waiting_in;
  IsQueued = IsQueued;
  threads = size.threads;
  first_key = size.first_sem;
  keys = length size.permits;
  fresh_pass = λ t. fresh_pass (key_count size);
  fresh_root = λ k. fresh_root;
}

pub one_outcome : (size : Numbers) → HasOneOutcome (meaning size)
one_outcome size a b c e s h k = h.2 ∙ sym k.2

pub no_letter_in_line : (size : Numbers) → LinesHaveNoLetter (meaning size)
no_letter_in_line size w ws hs ok t h = ap letter_of (ok.letters.in_line t h.0 h.1)
