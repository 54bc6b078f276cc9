-- The rule of a lot's table: there is one state of the whole model, and a world of each kind, that the words and the
-- rights stand for.
use Rattle.std.specs.Prelude.{◌≡◌, ◌⊎◌, ℕ, ◌+◌, ◌<◌, true, List, [], length, slice_index, nat_lt, if◌then◌else◌, Option}
use Rattle.std.specs.List.{Contains}
use Rattle.std.proofs.Common.{sym, ◌∙◌}
use mathlib.Core.Option as maybe
use Rattle.lot_core.specs.Model.{StateView}
use Rattle.lot_core.specs.Steps.{IsReached}
use Rattle.lot_order.specs.Order.{IsOrdered}
use Rattle.lot_rights.specs.Layout.{word_at, letter_at, word_count}
use Rattle.lot_rights.specs.Rule.{Meaning}
use Rattle.lot_rights.specs.World.{number_of}
use Rattle.lot_rights.specs.Settled.{HasOneOutcome, LinesHaveNoLetter}
use Rattle.lot_words.specs.CallersRule.{CallersRule}
use Rattle.lot_words.specs.Rule.{fresh_pass as fresh_lock_pass, fresh_root as fresh_lock_root, names as lock_names}
use Rattle.lot_conds.specs.Rule.{fresh_pass as fresh_cond_pass, fresh_root as fresh_cond_root, key_count as cond_keys}
use Rattle.lot_sems.specs.Rule.{fresh_pass as fresh_sem_pass, fresh_root as fresh_sem_root, names as sem_names}
use Rattle.lot_sems.specs.World.{key_count as sem_keys}
use Rattle.lot_whole.specs.declared.views.LotPassView.{LotPassView}
use Rattle.lot_whole.specs.declared.views.LotRootView.{LotRootView}
use Rattle.lot_whole.specs.declared.views.LotRootView.TheVariants.{Lock, Cond, Sem}
use Rattle.lot_whole.specs.declared.views.Stand.{Stand}
use Rattle.lot_whole.specs.declared.views.Stand.TheVariants.{Idle}
use Rattle.lot_whole.specs.Family.{Which, lock, cond, sem, LotSize, cond_size, sem_size, key_count, IsKeyIn, PassIn, RootIn}
use Rattle.lot_whole.specs.Family.{away, homes_in, meaning_of, part_in}
use Rattle.lot_whole.specs.Whole.{stand_of, WholeStep, word_in, waiting_in, IsQueued, counts_in, counts_of, opening_of}

-- ---- passes and roots, kind by kind
abbrev pub own_of : (V : Type 0) → LotPassView V → (j : Which) → PassIn V j
own_of V p lock = p.locks
own_of V p cond = p.conds
own_of V p sem = p.sems

abbrev pub pass_from : (V : Type 0) → ((j : Which) → PassIn V j) → Stand → LotPassView V
pass_from V f stand = record { locks = f lock; conds = f cond; sems = f sem; stand = stand }

abbrev pub root_from : (j : Which) → RootIn j → LotRootView
root_from lock q = Lock q
root_from cond q = Cond q
root_from sem q = Sem q

-- the number in a thread's letter: one kind at most has one for it
abbrev pub sum_of : (Which → ℕ → ℕ) → ℕ → ℕ
sum_of f t = f lock t + f cond t + f sem t

-- ---- the rights at the opening, where xs are the values
abbrev pub fresh_pass : {V : Type 0} → LotSize → List V → LotPassView V
fresh_pass z xs = record {
  locks = fresh_lock_pass xs;
  conds = fresh_cond_pass (cond_keys (cond_size z));
  sems = fresh_sem_pass (sem_keys (sem_size z));
  stand = Idle;
}

-- what no pass and no root knows
abbrev pub no_pass : {V : Type 0} → LotPassView V
no_pass = record { locks = fresh_lock_pass []; conds = fresh_cond_pass 0; sems = fresh_sem_pass 0; stand = Idle }

abbrev pub no_root : LotRootView
no_root = Lock fresh_lock_root

abbrev pub fresh_root : LotSize → ℕ → LotRootView
fresh_root z c =
    if nat_lt c z.locks then Lock fresh_lock_root
    else (if nat_lt c (z.locks + z.conds) then Cond fresh_cond_root else Sem fresh_sem_root)

-- the line of a key's sleepers
abbrev pub line_of_root : LotRootView → List ℕ
line_of_root (Lock q) = q.line
line_of_root (Cond q) = q.line
line_of_root (Sem q) = q.line

-- how many threads it has taken from there and not yet told
abbrev pub owed_by : LotRootView → ℕ
owed_by (Lock q) = number_of q.owes
owed_by (Cond q) = length q.owes
owed_by (Sem q) = number_of q.owes

-- whom a root names: those in its line, and whom it owes a letter
abbrev pub names : LotRootView → ℕ → Type 0
names (Lock q) u = lock_names q u
names (Cond q) u = Contains q.line u ⊎ Contains q.owes u
names (Sem q) u = sem_names q u

module _ {V Part : Type 0} (rule : CallersRule V Part) (z : LotSize) (xs : List V) where
  -- the world of each kind, and the words as that kind would have them alone; what each pass knows; and the state of
  -- the whole model
  pub record LotWorld : Type 0 where
    pub each : (j : Which) → (meaning_of rule z xs j).World
    pub words : Which → List ℕ
    pub pass : ℕ → LotPassView V
    pub whole : StateView

  abbrev pub letters_in : LotWorld → Which → ℕ → ℕ
  letters_in w j = ((meaning_of rule z xs j).told_by (w.each j)).letters

  abbrev pub owed_in : LotWorld → Which → ℕ → ℕ
  owed_in w j = (meaning_of rule z xs j).owed_in (w.each j)

  -- the pass p of the thread t is what each kind says of it; it is away in one kind at most, and tells how the thread
  -- stands
  pub record PassOk (w : LotWorld) (t : ℕ) (p : LotPassView V) : Type 0 where
    pub each : (j : Which) → (meaning_of rule z xs j).PassFits (w.each j) t (own_of V p j)
    pub apart : (j k : Which) → away V j (own_of V p j) ≡ true → away V k (own_of V p k) ≡ true → j ≡ k
    pub stand : stand_of (w.whole.point t) ≡ p.stand

  -- the words and the slots stand for the world: each kind's words and letters do so for that kind, and the parts of
  -- the whole state, which a run of the model reaches and which is in order, are what the kinds tell; no letter lies
  -- for a thread that is in a line
  pub record LotFits (w : LotWorld) (ws : List ℕ) (hs : List (maybe.Option (Option V))) : Type 0 where
    pub parts : (j : Which) → (meaning_of rule z xs j).Fits (w.each j) (w.words j) (homes_in j hs)
    pub wide : length ws ≡ word_count z.threads (key_count z)
    pub keys : (j : Which) (c : ℕ) → IsKeyIn z j c → slice_index ws (word_at c) ≡ slice_index (w.words j) (word_at c)
    pub letters : (t : ℕ) → t < z.threads → slice_index ws (letter_at t) ≡ sum_of (letters_in w) t
    pub passes : (t : ℕ) → t < z.threads → PassOk w t (w.pass t)
    pub agrees : (j : Which) → part_in rule z xs j w.whole ≡ ((meaning_of rule z xs j).told_by (w.each j)).part
    pub none_in_line : (t : ℕ) → IsQueued w.whole t → sum_of (letters_in w) t ≡ 0
    pub counts : counts_in w.whole ≡ counts_of z
    pub reached : IsReached w.whole
    pub ordered : IsOrdered rule.above w.whole

  abbrev pub LotPassIs : LotWorld → ℕ → LotPassView V → Type 0
  LotPassIs w t p = (t < z.threads) × (w.pass t ≡ p)

  abbrev pub LotRootIs : LotWorld → ℕ → LotRootView → Type 0
  LotRootIs w c (Lock q) = IsKeyIn z lock c × (meaning_of rule z xs lock).RootFits (w.each lock) c q
  LotRootIs w c (Cond q) = IsKeyIn z cond c × (meaning_of rule z xs cond).RootFits (w.each cond) c q
  LotRootIs w c (Sem q) = IsKeyIn z sem c × (meaning_of rule z xs sem).RootFits (w.each sem) c q

  -- for a lot of this size, where xs are the opening values
  abbrev pub lot_meaning : Meaning (Option V) (LotPassView V) LotRootView
  lot_meaning = record {
    World = LotWorld;
    Part = StateView;
    Fits = LotFits;
    PassFits = LotPassIs;
    RootFits = LotRootIs;
    owed_in = λ w. sum_of (owed_in w);
    told_by = λ w. record { part = w.whole; letters = sum_of (letters_in w) };
    start = record { part = opening_of z; letters = λ t. 0 };
    Step = WholeStep;
    word_in = word_in z;
    waiting_in = waiting_in z;
    IsQueued = IsQueued;
    threads = z.threads;
    first_key = 0;
    keys = key_count z;
    fresh_pass = λ t. fresh_pass z xs;
    fresh_root = fresh_root z;
  }

  pub one_outcome : HasOneOutcome lot_meaning
  one_outcome a b c e s h k = h.2 ∙ sym k.2

  pub no_letter_in_line : LinesHaveNoLetter lot_meaning
  no_letter_in_line w ws hs ok = ok.none_in_line
