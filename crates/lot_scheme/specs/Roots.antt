-- The roots of a lot's keys, as the buckets see them, and the numbers of the keys.
use Rattle.std.specs.Prelude.{◌≡◌, ℕ, ◌+◌, ◌<◌, ◌≤◌, List, [], ◌∷◌, drop, Option, Some, None}
use Rattle.lot_bucket.specs.KeyLine.{KeyLine}
use Rattle.lot_park.specs.Parking.{debt, debts}
use Rattle.lot_rights.specs.Shown.{RootShown}
use Rattle.lot_whole.specs.declared.views.LotRootView.{LotRootView}
use Rattle.lot_whole.specs.declared.views.LotRootView.TheVariants.{Lock, Cond, Sem}
use Rattle.lot_whole.specs.Family.{LotSize}
use Rattle.lot_whole.specs.Lot.{line_of_root}

-- ---- what the buckets see
-- the letter of a lock that is owed, with its token
abbrev pub debts_of : Option (ℕ × ℕ) → List (ℕ × ℕ)
debts_of None = []
debts_of (Some owed) = owed ∷ []

-- the letters that are owed to those that were taken from a key's line: one of a lock has a token, and all letters of
-- conditions and of semaphores have the token 0
abbrev pub owes_in : LotRootView → List (ℕ × ℕ)
owes_in (Lock q) = debts_of q.owes
owes_in (Cond q) = debts q.owes
owes_in (Sem q) = debt q.owes 0

abbrev pub key_line : ℕ → LotRootView → KeyLine
key_line c own = record { key = c; line = line_of_root own; owes = owes_in own }

abbrev pub root_view : RootShown LotRootView → KeyLine
root_view r = key_line r.key r.own

-- the first of the line, if one is there, was taken from it, and is owed a letter with this token
pub record OwesFirst {R : Type 0} (view : R → KeyLine) (root : R) (first : Option ℕ) (token : ℕ) (now : R) : Type 0 where
  pub named : (view now).key ≡ (view root).key
  pub lined : (view now).line ≡ drop 1 (view root).line
  pub owing : (view now).owes ≡ debt first token

-- a root, of which this is known now
abbrev pub with_root : RootShown LotRootView → LotRootView → RootShown LotRootView
with_root r own = record r { own = own }

-- ---- the numbers of the keys
-- those below `locks` are locks, those from there on and below `first_sem` are conditions, and all others are
-- semaphores
abbrev pub IsInItsKind : ℕ → ℕ → ℕ → LotRootView → Type 0
IsInItsKind locks first_sem c (Lock q) = c < locks
IsInItsKind locks first_sem c (Cond q) = (locks ≤ c) × (c < first_sem)
IsInItsKind locks first_sem c (Sem q) = (locks ≤ c) × (first_sem ≤ c)

-- ---- a lot's name
-- what a name tells of a lot: its numbers of threads, locks and conditions, and how many permits each semaphore has at
-- the opening
abbrev pub size_named : ℕ → ℕ → ℕ → List ℕ → LotSize
size_named threads locks conds permits = record { threads = threads; locks = locks; conds = conds; permits = permits }

-- the numbers of the conditions follow those of the locks, and those of the semaphores the conditions'
abbrev pub Follow : ℕ → ℕ → ℕ → Type 0
Follow locks conds first_sem = first_sem ≡ locks + conds
