-- What the words are seen as.
use Rattle.std.specs.Prelude.{List, Option}
use Rattle.atomic_table.specs.Seated.{TableId}
use Rattle.lot_rights.specs.Rule.{Meaning}
use Rattle.lot_words.specs.CallersRule.{CallersRule}
use Rattle.lot_whole.specs.declared.views.LotPassView.{LotPassView}
use Rattle.lot_whole.specs.declared.views.LotRootView.{LotRootView}
use Rattle.lot_whole.specs.Family.{LotSize}
use Rattle.lot_whole.specs.Lot.{lot_meaning}

-- the values are those of the opening
pub record LotWordsShown (V : Type 0) : Type 0 where
  pub table : TableId
  pub size : LotSize
  pub values : List V

-- what this table stands for
abbrev pub lot_of : {V Part : Type 0} → CallersRule V Part → LotWordsShown V → Meaning (Option V) (LotPassView V) LotRootView
lot_of rule words = lot_meaning rule words.size words.values
