-- What `close` tells.
use Rattle.std.specs.Prelude.{◌≡◌, ℕ, ◌+◌, List, slice_index, sum_by}
use Rattle.std.specs.List.{All}
use Rattle.lot_rights.specs.Closing.{IsRecounted}
use Rattle.lot_rights.specs.History.{no_letters}
use Rattle.lot_rights.specs.Shown.{PassShown, RootShown}
use Rattle.lot_sems.specs.declared.views.SemPassView.{SemPassView}
use Rattle.lot_sems.specs.declared.views.SemRootView.{SemRootView}
use Rattle.lot_sems.specs.World.{Numbers, permits_of, word_in, waiting_in}
use Rattle.lot_sems.specs.Rule.{IsStep, opening_part, IsQueued}

-- how many permits of k are out with these passes
abbrev pub out_with : List (PassShown SemPassView) → ℕ → ℕ
out_with passes k = sum_by (λ (p : PassShown SemPassView). slice_index p.own.out k) passes

-- one legal history was made with these rights; it leaves the lines that the roots have, and with the permits that are
-- out all that were there at the opening
pub record IsToldTo (size : Numbers) (passes : List (PassShown SemPassView)) (roots : List (RootShown SemRootView)) : Type 0 where
  pub recounted : IsRecounted (IsStep size) word_in waiting_in IsQueued (no_letters (opening_part size)) passes roots
  pub lines : All (λ (q : RootShown SemRootView). recounted.part.sems.line q.key ≡ q.own.line) roots
  pub permits : (k : ℕ) → recounted.part.sems.left k + out_with passes k ≡ permits_of size k
