-- What two passes know of one value.
use Rattle.std.specs.Prelude.{ℕ}
use Rattle.lot_words.specs.declared.views.LockPassView.{LockPassView}
use Rattle.lot_words.specs.CallersRule.{CallersRule}
use Rattle.lot_words.specs.Values.{SeenOk}

-- of the lock l the threads t and u, with these passes, know of one value: it keeps the rule, has grown from what each
-- has seen, and has the part that each has seen as its own, unless that thread holds l
pub record KnowBoth {V Part : Type 0} (rule : CallersRule V Part) (l t u : ℕ) (p q : LockPassView V) : Type 0 where
  pub value : V
  pub kept : rule.keeps l value
  pub first : SeenOk rule l t p value
  pub second : SeenOk rule l u q value
