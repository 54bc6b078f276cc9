-- What `close` asks for and tells.
use Rattle.std.specs.Prelude.{◌≡◌, ℕ, List}
use Rattle.std.specs.List.{All}
use Rattle.lot_core.specs.Parts.{LockStep}
use Rattle.lot_rights.specs.Closing.{IsRecounted}
use Rattle.lot_rights.specs.History.{no_letters}
use Rattle.lot_rights.specs.Shown.{PassShown, RootShown}
use Rattle.lot_words.specs.declared.views.LockPassView.{LockPassView}
use Rattle.lot_words.specs.declared.views.LockRootView.{LockRootView}
use Rattle.lot_words.specs.declared.views.Size.{Size}
use Rattle.lot_words.specs.Rule.{opening_part, word_in, waiting_in, IsQueued}
use Rattle.lot_words.specs.World.{Holds}

abbrev pub HoldsNone : {V : Type 0} → PassShown (LockPassView V) → Type 0
HoldsNone p = (l : ℕ) → ¬ Holds p.own l

-- one legal history was made with these rights, and it leaves the lines that the roots have
pub record IsToldTo {V : Type 0} (size : Size) (passes : List (PassShown (LockPassView V)))
    (roots : List (RootShown LockRootView)) : Type 0 where
  pub recounted : IsRecounted (LockStep size.threads size.locks) word_in waiting_in IsQueued (no_letters opening_part) passes roots
  pub lines : All (λ (q : RootShown LockRootView). recounted.part.locks.line q.key ≡ q.own.line) roots
