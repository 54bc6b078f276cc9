-- Which opening a right is of.
use Rattle.std.specs.Prelude.{[]}
use Rattle.atomic_table.specs.Seated.{TableId}

-- the tables of the lock words, of the condition words and of the semaphore words
pub record Opening : Type 0 where
  pub locks : TableId
  pub conds : TableId
  pub sems : TableId

abbrev pub no_table : TableId
no_table = record { words = 0; slots = 0; views_name = 0; atom = 0; block = 0; offset = 0; slot_names = [] }

abbrev pub no_opening : Opening
no_opening = record { locks = no_table; conds = no_table; sems = no_table }
