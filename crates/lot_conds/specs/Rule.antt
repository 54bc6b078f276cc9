-- The rule of a table of condition words: there is a world that the words and the rights stand for, and it tells the
-- condition part of the model.
use Rattle.std.specs.Prelude.{ℕ, ◌+◌, ◌<◌, false, List, [], replicate, None, length}
use Rattle.std.specs.List.{Contains}
use Rattle.std.proofs.Common.{sym, ap, ◌∙◌}
use Rattle.lot_events.specs.declared.events.Event.{Event}
use Rattle.lot_events.specs.declared.events.Seen.{Seen}
use Rattle.lot_core.specs.Parts.{CondPart, CondStep}
use Rattle.lot_rights.specs.Rule.{Meaning}
use Rattle.lot_rights.specs.Settled.{HasOneOutcome, LinesHaveNoLetter}
use Rattle.lot_rights.specs.World.{Sizes, letter_of, letters_of, owed_at, WordsFit, PassIs, RootIs}
use Rattle.lot_conds.specs.declared.views.CondPassView.{CondPassView}
use Rattle.lot_conds.specs.declared.views.CondRootView.{CondRootView}
use Rattle.lot_conds.specs.declared.views.Size.{Size}
use Rattle.lot_conds.specs.World.{CondWorld, flag_word, Kept}

-- how many keys there are, locks and conditions
abbrev pub key_count : Size → ℕ
key_count size = size.locks + size.conds

abbrev pub sizes_of : Size → Sizes
sizes_of size = record { threads = size.threads; first = size.locks; keys = size.conds }

-- the condition part of the model that a world stands for
abbrev pub part_of : CondWorld → CondPart
part_of w = record { conds = record { flag = w.word; line = λ c. (w.root c).line }; sweeps = λ t. (w.pass t).sweeps }

-- no flag is set, and nobody is queued or sweeps
abbrev pub opening_part : CondPart
opening_part = record { conds = record { flag = λ c. false; line = λ c. [] }; sweeps = λ t. None }

-- a step of the model's condition part, in a table of this size. An Enlist is noted with lock 0, whichever lock it was:
-- to the condition part it is the same with each
abbrev pub IsStep : Size → CondPart → Event → Seen → CondPart → Type 0
IsStep size a e saw b = CondStep size.threads size.locks size.conds a e saw b

-- the word of a condition
abbrev pub word_in : CondPart → ℕ → ℕ
word_in a c = flag_word (a.conds.flag c)

-- how many threads are in a condition's line
abbrev pub waiting_in : CondPart → ℕ → ℕ
waiting_in a c = length (a.conds.line c)

-- the thread is in a condition's line
abbrev pub IsQueued : CondPart → ℕ → Type 0
IsQueued a t = (c : ℕ) × Contains (a.conds.line c) t

-- the words stand for the world, which keeps the rule of threads and conditions; there is a lock
pub record Fits (size : Size) (w : CondWorld) (ws : List ℕ) : Type 0 where
  pub some : 0 < size.locks
  pub words : WordsFit flag_word (sizes_of size) w ws
  pub kept : Kept size.threads (key_count size) w

-- ---- the rights at the opening, among m keys
abbrev pub fresh_pass : ℕ → CondPassView
fresh_pass m = record { out = None; sweeps = None; called = replicate m 0; woken = replicate m 0 }

abbrev pub fresh_root : CondRootView
fresh_root = record { line = []; owes = [] }

abbrev pub meaning : Size → Meaning (Unit {0}) CondPassView CondRootView
meaning size = record {
  World = CondWorld;
  Part = CondPart;
  Fits = λ w ws hs. Fits size w ws;
  PassFits = λ w t p. PassIs (sizes_of size) w t p;
  RootFits = λ w c q. RootIs (sizes_of size) w c q;
  owed_in = λ w c. owed_at (sizes_of size) (λ q. length q.owes) w.root c;
  told_by = λ w. record { part = part_of w; letters = letters_of w.spot };
  start = record { part = opening_part; letters = λ t. 0 };
  Step = IsStep size;
  word_in = word_in;
  waiting_in = waiting_in;
  IsQueued = IsQueued;
  threads = size.threads;
  first_key = size.locks;
  keys = size.conds;
  fresh_pass = λ t. fresh_pass (key_count size);
  fresh_root = λ c. fresh_root;
}

-- what no pass and no root knows
abbrev pub no_pass : CondPassView
no_pass = fresh_pass 0

abbrev pub no_root : CondRootView
no_root = fresh_root

pub one_outcome : (size : Size) → HasOneOutcome (meaning size)
one_outcome size a b c e s h k = h.2 ∙ sym k.2

pub no_letter_in_line : (size : Size) → LinesHaveNoLetter (meaning size)
no_letter_in_line size w ws hs ok t h = ap letter_of ((ok.kept.threads t).in_line h.0 h.1)
