-- What is counted with a key's root.
use Rattle.std.specs.Prelude.{◌≡◌, ℕ, ◌+◌, ◌%◌, ◌^◌, List, [], ◌∷◌, length, Option}
use Rattle.atomic_table.specs.Table.{State}
use Rattle.lot_rights.specs.declared.views.Access.{Access}
use Rattle.lot_rights.specs.declared.views.Access.TheVariants.{Counts}
use Rattle.lot_rights.specs.declared.views.Entry.{Entry}
use Rattle.lot_rights.specs.declared.views.Right.{Right}
use Rattle.lot_rights.specs.History.{handed_in, tokens_of}
use Rattle.lot_rights.specs.Rule.{Ruled}
use Rattle.lot_rights.specs.Shown.{RootShown}
use Rattle.lot_words.specs.CallersRule.{CallersRule}
use Rattle.lot_whole.specs.declared.views.LotPassView.{LotPassView}
use Rattle.lot_whole.specs.declared.views.LotRootView.{LotRootView}
use Rattle.lot_whole.specs.Family.{LotSize}
use Rattle.lot_whole.specs.Order.{queued_in}
use Rattle.lot_whole.specs.Lot.{line_of_root, lot_meaning}
use Rattle.lot_whole.specs.Headline.{OneState}
use Rattle.lot_scheme.specs.declared.contention.Contention.{Contention}
use Rattle.lot_scheme.specs.Roots.{owes_in}
use Rattle.lot_scheme.specs.Standing.{LotStanding, adding}

-- so many were queued, taken, and handed the lock, each number modulo 2^64
pub record IsContention (parked taken handed : ℕ) (c : Contention) : Type 0 where
  pub parked_are : c.parked ≡ parked % 2 ^ 64
  pub taken_are : c.taken ≡ taken % 2 ^ 64
  pub handed_are : c.handed ≡ handed % 2 ^ 64

-- of a key's root: the threads that wait, or were taken and are not told yet; and all that were ever queued, since who
-- was told was told by an entry of the root
abbrev pub queued_now : LotRootView → ℕ
queued_now own = length (line_of_root own) + length (owes_in own)

abbrev pub queued_ever : RootShown LotRootView → ℕ
queued_ever r = length r.made + queued_now r.own

-- this was counted with the root
abbrev pub CountedWith : (ℕ → ℕ → ℕ → Type 0) → RootShown LotRootView → Type 0
CountedWith counts r = counts (queued_ever r) (length r.made) (handed_in r.made)

-- nobody has parked on the key yet
pub record IsUnused (r : RootShown LotRootView) : Type 0 where
  pub made_none : r.made ≡ []
  pub nobody : line_of_root r.own ≡ []
  pub owes_none : owes_in r.own ≡ []

-- ---- what was counted, and the history
-- the trace of a call that counts: one access, which tells of the entries before it what is answered, and how many
-- waited
abbrev pub CountTrace : ℕ → ℕ → Contention → List Access → Type 0
CountTrace t key c acts =
    (told handed waiting : ℕ) × IsContention (told + waiting) told handed c × (acts ≡ Counts t key told handed waiting ∷ [])

-- q is the pass p, which has counted this of the key
abbrev pub HasCounted : {V : Type 0} → LotStanding V → ℕ → Contention → LotStanding V → Type 0
HasCounted p key c q = (acts : List Access) × CountTrace p.thread key c acts × (q ≡ adding p acts)

-- Of a history: as many were queued at the key as it has entries that queued a thread there; taken from its line as it
-- has entries that told them so; and handed the lock as it has such entries with the token of a handoff
abbrev pub CountsOf : (ℕ → ℕ → ℕ → Type 0) → List Entry → ℕ → Type 0
CountsOf counts log key = counts (queued_in key log) (length (tokens_of key log)) (handed_in (tokens_of key log))

-- At some moment a lot of this size had such a history, which led to one sound state
pub record WasCounted {V Part : Type 0} (rule : CallersRule V Part) (z : LotSize) (key : ℕ) (c : Contention) : Type 0 where
  pub values : List V
  pub table : State (Option V) (List (Right (LotPassView V) LotRootView))
  pub here : Ruled (lot_meaning rule z values) table
  pub whole : OneState rule z values table here
  pub counted : CountsOf (λ p t h. IsContention p t h c) here.log key
