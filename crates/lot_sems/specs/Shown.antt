-- What the words are seen as.
use Rattle.atomic_table.specs.Seated.{TableId}
use Rattle.lot_sems.specs.World.{Numbers}

pub record SemWordsShown : Type 0 where
  pub table : TableId
  pub size : Numbers
