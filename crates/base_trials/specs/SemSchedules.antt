-- What the schedules of the tests know of the rights of a table with one semaphore, whose number is 1.
use Rattle.std.specs.Prelude.{◌≡◌, ℕ, true, List, [], length, Some, None}
use Rattle.atomic_table.specs.Seated.{TableId}
use Rattle.lot_rights.specs.Shown.{PassShown, RootShown}
use Rattle.lot_sems.specs.declared.views.SemPassView.{SemPassView}
use Rattle.lot_sems.specs.declared.views.SemRootView.{SemRootView}
use Rattle.lot_sems.specs.World.{Numbers}
use Rattle.lot_sems.specs.Calls.{IsCalm, IsSeeking, MayGive}

abbrev pub IsOne : Numbers → Type 0
IsOne size = (size.first_sem ≡ 1) × (length size.permits ≡ 1)

-- a pass of the table, of the thread t
abbrev pub IsOf : TableId → ℕ → PassShown SemPassView → Type 0
IsOf table t p = (p.table ≡ table) × (p.thread ≡ t) × (length p.own.out ≡ 2)

-- it is calm
abbrev pub IsFree : TableId → ℕ → PassShown SemPassView → Type 0
IsFree table t p = IsOf table t p × IsCalm p.own

-- it is calm, and has a permit
abbrev pub Has : TableId → ℕ → PassShown SemPassView → Type 0
Has table t p = IsOf table t p × MayGive p.own 1

-- it seeks one
abbrev pub Seeks : TableId → ℕ → PassShown SemPassView → Type 0
Seeks table t p = IsOf table t p × IsSeeking p.own 1

-- it sleeps in the line
abbrev pub Sleeps : TableId → ℕ → PassShown SemPassView → Type 0
Sleeps table t p = IsOf table t p × (p.own.asleep ≡ true) × (p.own.seeks ≡ Some 1)

-- the root of the semaphore, with this line, which owes nothing
abbrev pub HasLine : TableId → List ℕ → RootShown SemRootView → Type 0
HasLine table line q = (q.table ≡ table) × (q.key ≡ 1) × (q.own.line ≡ line) × (q.own.owes ≡ None)

-- the passes of the threads 0, 1 and 2, which are calm, and the root, in whose line nobody is
abbrev pub AreIdle : TableId → PassShown SemPassView → PassShown SemPassView → PassShown SemPassView
    → RootShown SemRootView → Type 0
AreIdle table zero one two root = IsFree table 0 zero × IsFree table 1 one × IsFree table 2 two × HasLine table [] root
