-- What the schedules of the tests know of the rights of a table with one lock and one condition.
use Rattle.std.specs.Prelude.{◌≡◌, ℕ, [], None}
use Rattle.atomic_table.specs.Seated.{TableId}
use Rattle.lot_rights.specs.Shown.{PassShown, RootShown}
use Rattle.lot_conds.specs.declared.views.CondPassView.{CondPassView}
use Rattle.lot_conds.specs.declared.views.CondRootView.{CondRootView}

-- the pass of the thread t, which is out nowhere and sweeps nothing
abbrev pub IsFree : TableId → ℕ → PassShown CondPassView → Type 0
IsFree table t p = (p.table ≡ table) × (p.thread ≡ t) × (p.own.out ≡ None) × (p.own.sweeps ≡ None)

-- the root of the condition, in whose line nobody is
abbrev pub IsEmpty : TableId → RootShown CondRootView → Type 0
IsEmpty table q = (q.table ≡ table) × (q.key ≡ 1) × (q.own.line ≡ []) × (q.own.owes ≡ [])

-- the passes of the threads 0, 1 and 2, which are free so, and the root
abbrev pub AreFree : TableId → PassShown CondPassView → PassShown CondPassView → PassShown CondPassView
    → RootShown CondRootView → Type 0
AreFree table zero one two root = IsFree table 0 zero × IsFree table 1 one × IsFree table 2 two × IsEmpty table root
