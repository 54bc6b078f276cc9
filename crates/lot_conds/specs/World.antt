-- What the words, the passes and the roots of a table of condition words stand for.
use Rattle.std.specs.Prelude.{◌≡◌, ◌≢◌, ℕ, ◌+◌, ◌<◌, ◌==◌, if◌then◌else◌, Bool, true, false, [], length, slice_index, Some, None}
use Rattle.std.specs.List.{Contains}
use Rattle.lot_core.specs.Sound.{IsOnce}
use Rattle.lot_rights.specs.World.{World, Spot, awake, queued, owed, lying}
use Rattle.lot_conds.specs.declared.views.CondPassView.{CondPassView}
use Rattle.lot_conds.specs.declared.views.CondRootView.{CondRootView}
use Rattle.lot_core.specs.Sums.{total}

-- of each condition the word says its flag
abbrev pub CondWorld : Type 0
CondWorld = World CondPassView CondRootView Bool

abbrev pub flag_word : Bool → ℕ
flag_word false = 0
flag_word true = 1

-- the thread t is enlisted on c, and has not collected its letter
abbrev pub IsOut : ℕ → ℕ → CondPassView → ℕ → Type 0
IsOut n t p c = (t < n) × (p.out ≡ Some c)

-- letters: a pass that was queued and has not collected is in its condition's line, or has exactly one letter, owed or
-- lying; all tokens are 0
abbrev pub SpotFits : ℕ → (ℕ → CondRootView) → ℕ → CondPassView → Spot → Type 0
SpotFits n root t p awake = p.out ≡ None
SpotFits n root t p (queued c) = IsOut n t p c × Contains (root c).line t
SpotFits n root t p (owed c token) = IsOut n t p c × Contains (root c).owes t × (token ≡ 0)
SpotFits n root t p (lying c token) = IsOut n t p c × (token ≡ 0)

-- 1 where the thread was taken from c's line and has not collected its letter, else 0
abbrev pub taken_from : ℕ → Spot → ℕ
taken_from c awake = 0
taken_from c (queued d) = 0
taken_from c (owed d token) = if d == c then 1 else 0
taken_from c (lying d token) = if d == c then 1 else 0

-- the ledger of c, among n threads: each sleeper that was taken from its line is one ended wait, or one letter
abbrev pub LedgerFits : ℕ → (ℕ → CondPassView) → (ℕ → Spot) → ℕ → Type 0
LedgerFits n pass spot c =
    total n (λ t. slice_index (pass t).called c) ≡ total n (λ t. slice_index (pass t).woken c) + total n (λ t. taken_from c (spot t))

-- the thread t with the pass p and its notice at sp, among the conditions; m is the number of all keys
pub record ThreadFits (n m : ℕ) (root : ℕ → CondRootView) (t : ℕ) (p : CondPassView) (sp : Spot) : Type 0 where
  pub called : length p.called ≡ m
  pub woken : length p.woken ≡ m
  pub outs : (c : ℕ) → p.out ≡ Some c → c < m
  pub spot : SpotFits n root t p sp
  pub in_line : (c : ℕ) → Contains (root c).line t → sp ≡ queued c
  pub is_owed : (c : ℕ) → Contains (root c).owes t → sp ≡ owed c 0

-- the condition c with its flag f and its root q, among the threads
pub record CondFits (n : ℕ) (pass : ℕ → CondPassView) (spot : ℕ → Spot) (c : ℕ) (f : Bool) (q : CondRootView) : Type 0 where
  pub once : IsOnce q.line
  pub owed_once : IsOnce q.owes
  pub swept : f ≡ false → q.line ≢ [] → (t : ℕ) × ((t < n) × ((pass t).sweeps ≡ Some c))
  pub ledger : LedgerFits n pass spot c

-- the rule of threads and conditions
pub record Kept (n m : ℕ) (w : CondWorld) : Type 0 where
  pub threads : (t : ℕ) → ThreadFits n m w.root t (w.pass t) (w.spot t)
  pub conds : (c : ℕ) → CondFits n w.pass w.spot c (w.word c) (w.root c)
