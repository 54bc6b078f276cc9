-- What a caller's rule may ask of a thread that leaves.
use Rattle.std.specs.Prelude.{ℕ, List}
use Rattle.lot_rights.specs.declared.views.Access.{Access}

-- the thread, what it has seen of each value, by key how many sleepers it took from the condition's line and how many
-- waits of its own ended, and the accesses that were made with its pass, the oldest first
pub record Rested (V : Type 0) : Type 0 where
  pub thread : ℕ
  pub seen : List V
  pub called : List ℕ
  pub woken : List ℕ
  pub made : List Access
