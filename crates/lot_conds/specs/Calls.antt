-- What each kind of call does to the rights that it is handed.
use Rattle.std.specs.Prelude.{◌≡◌, ℕ, zero, suc, ◌+◌, [], ◌∷◌, ◌++◌, take, drop, slice_index, slice_set, Some, None}
use Rattle.lot_rights.specs.declared.views.Access.TheVariants.{Collects}
use Rattle.lot_rights.specs.Shown.{PassShown}
use Rattle.lot_rights.specs.Lines.{without}
use Rattle.lot_rights.specs.Steps.{Notes}
use Rattle.lot_conds.specs.declared.views.CondPassView.{CondPassView}
use Rattle.lot_conds.specs.declared.views.CondRootView.{CondRootView}

-- ---- the pass
-- the thread is enlisted nowhere, and sweeps nothing
abbrev pub IsCalm : CondPassView → Type 0
IsCalm p = (p.out ≡ None) × (p.sweeps ≡ None)

-- the thread is enlisted on c
abbrev pub enlisted : CondPassView → ℕ → CondPassView
enlisted p c = record p { out = Some c }

-- the thread has lowered c's flag
abbrev pub lowering : CondPassView → ℕ → CondPassView
lowering p c = record p { sweeps = Some c }

-- the thread has taken k sleepers more from c's line
abbrev pub called_more : CondPassView → ℕ → ℕ → CondPassView
called_more p c k = record p { called = slice_set p.called c (slice_index p.called c + k) }

-- it has swept c, and so taken all k in the line
abbrev pub swept_pass : CondPassView → ℕ → ℕ → CondPassView
swept_pass p c k = called_more (record p { sweeps = None }) c k

-- the thread has collected its letter: one wait on c more has ended
abbrev pub one_wait_more : CondPassView → ℕ → CondPassView
one_wait_more p c = record p { out = None; woken = slice_set p.woken c (slice_index p.woken c + 1) }

-- ---- the root
-- t goes last in the line
abbrev pub enlisted_root : CondRootView → ℕ → CondRootView
enlisted_root q t = record q { line = q.line ++ t ∷ [] }

-- the first n of the line are taken, and owed a letter
abbrev pub called_root : CondRootView → ℕ → CondRootView
called_root q n = record q { line = drop n q.line; owes = q.owes ++ take n q.line }

-- all in the line are taken and owed a letter
abbrev pub swept_root : CondRootView → CondRootView
swept_root q = record q { line = []; owes = q.owes ++ q.line }

-- the letter of t is owed no more
abbrev pub paid_root : CondRootView → ℕ → CondRootView
paid_root q t = record q { owes = without t q.owes }

-- ---- letters
-- q is the pass p after it found no letter
abbrev pub FoundNone : PassShown CondPassView → PassShown CondPassView → Type 0
FoundNone p q = Notes p p.own (Collects p.thread None) q

-- q is the pass p after it collected its letter, whose token is 0 as all tokens are: its wait has ended
abbrev pub Collected : PassShown CondPassView → ℕ → PassShown CondPassView → Type 0
Collected p token q = (token ≡ 0) × ((c : ℕ) × ((p.own.out ≡ Some c) × Notes p (one_wait_more p.own c) (Collects p.thread (Some token)) q))

-- by the number in the letter
abbrev pub CollectedBy : PassShown CondPassView → ℕ → PassShown CondPassView → Type 0
CollectedBy p zero q = FoundNone p q
CollectedBy p (suc token) q = Collected p token q
