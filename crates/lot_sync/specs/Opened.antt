-- A lot between its opening and its start.
use Rattle.std.specs.Prelude.{◌≡◌, ℕ, ◌+◌, ◌<◌, ◌≤◌, List, length, slice_get, Some}
use Rattle.lot_core.specs.declared.state.TheConstants.{MAX_THREADS, MAX_KEYS}
use Rattle.lot_rights.specs.declared.layout.TheConstants.{MOST_KEYS}
use Rattle.lot_rights.specs.Opening.{no_table}
use Rattle.lot_rights.specs.Shown.{PassShown, RootShown}
use Rattle.lot_rights.specs.Start.{pass_at, root_at}
use Rattle.lot_words.specs.CallersRule.{CallersRule}
use Rattle.lot_whole.specs.declared.views.LotPassView.{LotPassView}
use Rattle.lot_whole.specs.declared.views.LotRootView.{LotRootView}
use Rattle.lot_whole.specs.Family.{key_count}
use Rattle.lot_whole.specs.Shown.{LotWordsShown, lot_of}
use Rattle.lot_sync.specs.Lot.{LotNames, LotView}
use Rattle.lot_sync.specs.declared.many.TheConstants.{MOST_CONDS}
use Rattle.lot_sync.specs.declared.fault.OpenFault.{OpenFault}
use Rattle.lot_sync.specs.declared.fault.OpenFault.TheVariants.{BadThreads, BadKeys, NoMemory}

-- each value keeps the rule of its key
abbrev pub KeepAll : {V : Type 0} → (ℕ → V → Type 0) → List V → Type 0
KeepAll {V} keeps values = (key : ℕ) (v : V) → slice_get values key ≡ Some v → keeps key v

-- an opening is seen as what its name will tell of it
abbrev pub opened_as : {V : Type 0} → LotWordsShown V → LotNames V
opened_as words = record {
  opening = record { locks = words.table; conds = no_table; sems = no_table };
  first_sem = words.size.locks + words.size.conds;
  permits = words.size.permits;
  locks = words.size.locks;
  conds = words.size.conds;
  threads = words.size.threads;
  values = words.values;
}

-- the opening was with these numbers, with a lock for each value and a semaphore for each number of permits
abbrev pub IsOpenedWith : {V : Type 0} → LotNames V → ℕ → List V → ℕ → List ℕ → Type 0
IsOpenedWith o threads values conds permits = (o.threads ≡ threads) × (o.values ≡ values) × (o.conds ≡ conds)
    × (o.first_sem ≡ length values + conds) × (o.permits ≡ permits) × (o.locks ≡ length values)

-- the name is that of this opening
abbrev pub IsNamed : {V : Type 0} → LotNames V → LotNames V → Type 0
IsNamed names opened = names ≡ opened

-- the lot has the numbers of its opening
abbrev pub HasNumbersOf : {V : Type 0} → LotNames V → LotView → Type 0
HasNumbersOf opened lot = (lot.threads ≡ opened.threads) × (lot.locks ≡ length opened.values) × (lot.conds ≡ opened.conds)
    × (lot.sems ≡ length opened.permits)

-- nobody has used these words yet: there is a pass for each thread and a root for each key, in order, and the numbers
-- are those of the words
pub record IsOpened {V Part : Type 0} (rule : CallersRule V Part) (words : LotWordsShown V) (passes : List (PassShown (LotPassView V)))
    (roots : List (RootShown LotRootView)) (threads locks conds sems : ℕ) : Type 0 where
  pub some_threads : 0 < words.size.threads
  pub few_threads : words.size.threads ≤ MAX_THREADS
  pub few_keys : key_count words.size ≤ MOST_KEYS
  pub a_lock_each : words.size.locks ≡ length words.values
  pub passes_long : length passes ≡ words.size.threads
  pub passes_are : (t : ℕ) → t < words.size.threads → slice_get passes t ≡ Some (pass_at (lot_of rule words) words.table t)
  pub roots_long : length roots ≡ key_count words.size
  pub roots_are : (c : ℕ) → c < key_count words.size → slice_get roots c ≡ Some (root_at (lot_of rule words) words.table c)
  pub threads_are : threads ≡ words.size.threads
  pub locks_are : locks ≡ words.size.locks
  pub conds_are : conds ≡ words.size.conds
  pub sems_are : sems ≡ length words.size.permits

abbrev pub IsThreadCount : ℕ → Type 0
IsThreadCount threads = (1 ≤ threads) × (threads ≤ MAX_THREADS)

abbrev pub IsKeyCount : ℕ → ℕ → ℕ → Type 0
IsKeyCount locks conds sems = (1 ≤ locks) × (locks + conds + sems ≤ MAX_KEYS)

-- the keys of a lot that may have many: a condition costs 16 bytes for each thread, so these have a limit of their own
abbrev pub AreManyKeys : ℕ → ℕ → ℕ → Type 0
AreManyKeys locks conds sems = (1 ≤ locks) × (conds ≤ MOST_CONDS) × (locks + conds + sems ≤ MOST_KEYS)

-- why so many threads are refused, with keys that fit or don't
abbrev pub Refuses : Type 0 → ℕ → OpenFault → Type 0
Refuses fit threads BadThreads = ¬ IsThreadCount threads
Refuses fit threads BadKeys = IsThreadCount threads × (¬ fit)
Refuses fit threads NoMemory = IsThreadCount threads × fit
