-- What the words are seen as.
use Rattle.atomic_table.specs.Seated.{TableId}
use Rattle.lot_conds.specs.declared.views.Size.{Size}

pub record CondWordsShown : Type 0 where
  pub table : TableId
  pub size : Size
