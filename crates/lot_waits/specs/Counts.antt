-- What a thread has counted, in whole numbers, and what is kept of it: numbers modulo 2^64.
use Rattle.std.specs.Prelude.{◌≡◌, ℕ, ◌+◌, ◌%◌, List, map, drop, length, replicate, slice_index, slice_set}
use Rattle.lot_core.specs.Parts.{IsAmongConds}
use Rattle.lot_rights.specs.Shown.{PassShown}
use Rattle.lot_whole.specs.declared.views.LotPassView.{LotPassView}
use Rattle.lot_scheme.specs.Standing.{LotStanding, standing}

-- a thread, and by key: the sleepers that it took from the condition's line, and its own waits that ended
pub record CountsView : Type 0 where
  pub thread : ℕ
  pub called : List ℕ
  pub woken : List ℕ

module _ {V : Type 0} where
  -- what the pass has counted
  abbrev pub counts_in : LotStanding V → CountsView
  counts_in p = record { thread = p.thread; called = p.own.conds.called; woken = p.own.conds.woken }

  abbrev pub counts_shown : PassShown (LotPassView V) → CountsView
  counts_shown p = counts_in (standing p)

-- the thread t, which has counted nothing yet, among so many keys
abbrev pub uncounted : ℕ → ℕ → CountsView
uncounted keys t = record { thread = t; called = replicate keys 0; woken = replicate keys 0 }

-- one wait on c more has ended
abbrev pub one_wait_more : CountsView → ℕ → CountsView
one_wait_more q c = record q { woken = slice_set q.woken c (slice_index q.woken c + 1) }

-- k sleepers more were taken from c's line
abbrev pub called_more : CountsView → ℕ → ℕ → CountsView
called_more q c k = record q { called = slice_set q.called c (slice_index q.called c + k) }

-- there is a number for each key
abbrev pub IsWide : ℕ → CountsView → Type 0
IsWide keys q = (length q.called ≡ keys) × (length q.woken ≡ keys)

-- ---- what is kept
abbrev pub wrap : ℕ → ℕ
wrap n = n % 18446744073709551616

-- of the conditions, whose numbers follow those of the locks
abbrev pub kept : ℕ → List ℕ → List ℕ
kept locks counts = map wrap (drop locks counts)

pub record AreKept (locks conds : ℕ) (q : CountsView) (called woken : List ℕ) : Type 0 where
  pub wide : IsWide (locks + conds) q
  pub called_are : called ≡ kept locks q.called
  pub woken_are : woken ≡ kept locks q.woken

-- these are kept of what some pass counted, and c is one of its conditions
abbrev pub MayCount : ℕ → ℕ → List ℕ → List ℕ → Type 0
MayCount locks c called woken =
    (conds : ℕ) × (q : CountsView) × AreKept locks conds q called woken × IsAmongConds locks conds c
