-- What a table of condition words promises: at every moment all of this holds, of one world. Each notice is in one
-- place; nobody is forgotten behind a clear flag; the ledger is balanced; and one legal history has led here.
use Rattle.std.specs.Prelude.{◌≡◌, ◌≢◌, ◌↔◌, ℕ, ◌+◌, ◌<◌, false, List, [], slice_index, Some}
use Rattle.std.specs.List.{Contains}
use Rattle.atomic_table.specs.Table.{State}
use Rattle.lot_core.specs.Sound.{IsOnce}
use Rattle.lot_rights.specs.declared.views.Right.{Right}
use Rattle.lot_rights.specs.Settled.{OneHistory}
use Rattle.lot_core.specs.Sums.{total}
use Rattle.lot_rights.specs.World.{queued, owed, lying, waits_on, WordsFit}
use Rattle.lot_conds.specs.declared.views.CondPassView.{CondPassView}
use Rattle.lot_conds.specs.declared.views.CondRootView.{CondRootView}
use Rattle.lot_conds.specs.declared.views.Size.{Size}
use Rattle.lot_conds.specs.World.{CondWorld, flag_word, taken_from}
use Rattle.lot_conds.specs.Rule.{sizes_of, part_of, meaning}

-- Letters fit: a thread that is out on a condition is in the line of that one alone, or is owed a letter by that root
-- alone, or a letter lies for it; the others have none
pub record LettersFit (w : CondWorld) : Type 0 where
  pub out : (t : ℕ) → (w.pass t).out ≡ waits_on (w.spot t)
  pub lines : (t c : ℕ) → Contains (w.root c).line t ↔ (w.spot t ≡ queued c)
  pub owes : (t c : ℕ) → Contains (w.root c).owes t ↔ (w.spot t ≡ owed c 0)
  pub tokens : (t c token : ℕ) → w.spot t ≡ lying c token → token ≡ 0
  -- one line each, and once; one letter each
  pub once_in_line : (c : ℕ) → IsOnce (w.root c).line
  pub owed_once : (c : ℕ) → IsOnce (w.root c).owes

-- the ledger, among n threads: in each condition, the sleepers that were taken are the waits that ended and the letters
-- that are owed or lie
abbrev pub IsBalanced : ℕ → CondWorld → Type 0
IsBalanced n w =
    (c : ℕ) → total n (λ t. slice_index (w.pass t).called c) ≡ total n (λ t. slice_index (w.pass t).woken c)
    + total n (λ t. taken_from c (w.spot t))

pub record Headline (size : Size) (s : State (Unit {0}) (List (Right CondPassView CondRootView))) : Type 0 where
  pub world : CondWorld
  -- each word is a condition's flag or a thread's letter
  pub words : WordsFit flag_word (sizes_of size) world s.words
  pub letters : LettersFit world
  -- who is in a line is a thread
  pub are_threads : (c t : ℕ) → Contains ((part_of world).conds.line c) t → t < size.threads
  -- where the flag is clear and threads are in the line, one thread is about to sweep them
  pub someone_sweeps : (c : ℕ) → (part_of world).conds.flag c ≡ false → (part_of world).conds.line c ≢ []
      → (t : ℕ) × ((t < size.threads) × ((part_of world).sweeps t ≡ Some c))
  pub balanced : IsBalanced size.threads world
  pub run : OneHistory (meaning size) s world
