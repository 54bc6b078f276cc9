-- What `close` asks for and tells.
use Rattle.std.specs.Prelude.{◌≡◌, ℕ, List, slice_index, sum_by, None}
use Rattle.std.specs.List.{All}
use Rattle.lot_rights.specs.Closing.{IsRecounted}
use Rattle.lot_rights.specs.History.{no_letters}
use Rattle.lot_rights.specs.Shown.{PassShown, RootShown}
use Rattle.lot_conds.specs.declared.views.CondPassView.{CondPassView}
use Rattle.lot_conds.specs.declared.views.CondRootView.{CondRootView}
use Rattle.lot_conds.specs.declared.views.Size.{Size}
use Rattle.lot_conds.specs.Rule.{IsStep, opening_part, word_in, waiting_in, IsQueued}

abbrev pub IsIdle : PassShown CondPassView → Type 0
IsIdle p = p.own.out ≡ None

-- how many sleepers these passes took from c's line, and how many of their waits on c found their letter
abbrev pub called_in : List (PassShown CondPassView) → ℕ → ℕ
called_in passes c = sum_by (λ (p : PassShown CondPassView). slice_index p.own.called c) passes

abbrev pub woken_in : List (PassShown CondPassView) → ℕ → ℕ
woken_in passes c = sum_by (λ (p : PassShown CondPassView). slice_index p.own.woken c) passes

-- one legal history was made with these rights, and it leaves the lines that the roots have
pub record IsToldTo (size : Size) (passes : List (PassShown CondPassView)) (roots : List (RootShown CondRootView)) : Type 0 where
  pub recounted : IsRecounted (IsStep size) word_in waiting_in IsQueued (no_letters opening_part) passes roots
  pub lines : All (λ (q : RootShown CondRootView). recounted.part.conds.line q.key ≡ q.own.line) roots
