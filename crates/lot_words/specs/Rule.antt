-- The rule of a table of lock words: there is a world that the words, the slots and the rights stand for, with lawful
-- values, and it tells the lock part of the model.
use Rattle.std.specs.Prelude.{◌≡◌, ℕ, zero, suc, ◌⊎◌, false, List, [], length, replicate, Option, Some, None, is_some}
use Rattle.std.specs.List.{Contains}
use Rattle.std.proofs.Common.{sym, ap, ◌∙◌}
use mathlib.Core.Option as maybe
use Rattle.lot_core.specs.State.{owns}
use Rattle.lot_core.specs.Parts.{LockPart, LockStep}
use Rattle.lot_rights.specs.Rule.{Meaning}
use Rattle.lot_rights.specs.Settled.{HasOneOutcome, LinesHaveNoLetter}
use Rattle.lot_rights.specs.World.{Spot, awake, queued, owed, lying, Sizes, letter_of, letters_of, number_of, owed_at, WordsFit}
use Rattle.lot_rights.specs.World.{PassIs, RootIs}
use Rattle.lot_words.specs.declared.views.Hold.TheVariants.{NotHeld}
use Rattle.lot_words.specs.declared.views.LockPassView.{LockPassView}
use Rattle.lot_words.specs.declared.views.LockRootView.{LockRootView}
use Rattle.lot_words.specs.declared.views.Place.TheVariants.{Out}
use Rattle.lot_words.specs.declared.views.Size.{Size}
use Rattle.lot_words.specs.CallersRule.{CallersRule}
use Rattle.lot_words.specs.World.{LockWorld, bits_of, word_of, Kept}
use Rattle.lot_words.specs.Values.{IsLawful}

abbrev pub sizes_of : Size → Sizes
sizes_of size = record { threads = size.threads; first = 0; keys = size.locks }

-- ---- the lock part of the model that a world stands for
-- a thread to which its lock was handed wants it no more
abbrev pub wants_of : Spot → Option ℕ → Option ℕ
wants_of awake a = a
wants_of (queued l) a = a
wants_of (owed l zero) a = a
wants_of (owed l (suc k)) a = None
wants_of (lying l zero) a = a
wants_of (lying l (suc k)) a = None

abbrev pub part_of : {V : Type 0} → LockWorld V → LockPart
part_of w = record {
  locks = record {
    held = λ l. is_some (w.word l).owner;
    parked = λ l. (w.word l).parked;
    line = λ l. (w.root l).line;
    has = λ l. owns (w.word l).owner;
  };
  wants = λ t. wants_of (w.spot t) (w.pass t).aim;
}

-- nothing is held, parked, queued or wanted
abbrev pub opening_part : LockPart
opening_part = record { locks = record { held = λ l. false; parked = λ l. false; line = λ l. []; has = λ l t. false }; wants = λ t. None }

-- the word of a lock
abbrev pub word_in : LockPart → ℕ → ℕ
word_in a l = bits_of (a.locks.held l) (a.locks.parked l)

-- how many threads are in a lock's line
abbrev pub waiting_in : LockPart → ℕ → ℕ
waiting_in a l = length (a.locks.line l)

-- the thread is in a lock's line
abbrev pub IsQueued : LockPart → ℕ → Type 0
IsQueued a t = (l : ℕ) × Contains (a.locks.line l) t

-- ---- the rights at the opening, where xs are the values: no lock is held, no value is out, and the opening values were seen
abbrev pub fresh_pass : {V : Type 0} → List V → LockPassView V
fresh_pass xs = record { holds = replicate (length xs) NotHeld; aim = None; asleep = false; places = replicate (length xs) Out; seen = xs }

abbrev pub fresh_root : LockRootView
fresh_root = record { line = []; owes = None }

-- what no pass and no root knows
abbrev pub no_pass : {V : Type 0} → LockPassView V
no_pass = fresh_pass []

abbrev pub no_root : LockRootView
no_root = fresh_root

-- whom a root names: those in its line, and whom it owes a letter
abbrev pub names : LockRootView → ℕ → Type 0
names q u = Contains q.line u ⊎ ((k : ℕ) × (q.owes ≡ Some (u, k)))

module _ {V Part : Type 0} (rule : CallersRule V Part) where
  -- the words and the slots stand for the world, which keeps the rule of threads and locks, and whose values are lawful
  pub record Fits (size : Size) (w : LockWorld V) (ws : List ℕ) (homes : List (maybe.Option (Option V))) : Type 0 where
    pub words : WordsFit word_of (sizes_of size) w ws
    pub kept : Kept size.threads size.locks w
    pub lawful : IsLawful rule size.threads size.locks w.pass homes

  -- for a table of this size, where xs are the opening values
  abbrev pub meaning : Size → List V → Meaning (Option V) (LockPassView V) LockRootView
  meaning size xs = record {
    World = LockWorld V;
    Part = LockPart;
    Fits = Fits size;
    PassFits = λ w t p. PassIs (sizes_of size) w t p;
    RootFits = λ w l q. RootIs (sizes_of size) w l q;
    owed_in = λ w l. owed_at (sizes_of size) (λ q. number_of q.owes) w.root l;
    told_by = λ w. record { part = part_of w; letters = letters_of w.spot };
    start = record { part = opening_part; letters = λ t. 0 };
    Step = LockStep size.threads size.locks;
    word_in = word_in;
    waiting_in = waiting_in;
    IsQueued = IsQueued;
    threads = size.threads;
    first_key = 0;
    keys = size.locks;
    fresh_pass = λ t. fresh_pass xs;
    fresh_root = λ l. fresh_root;
  }

  pub one_outcome : (size : Size) (xs : List V) → HasOneOutcome (meaning size xs)
  one_outcome size xs a b c e s h k = h.2 ∙ sym k.2

  pub no_letter_in_line : (size : Size) (xs : List V) → LinesHaveNoLetter (meaning size xs)
  no_letter_in_line size xs w ws hs ok t h = ap letter_of ((ok.kept.threads t).in_line h.0 h.1)
