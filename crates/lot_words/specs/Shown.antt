-- What the words are seen as, and the rights that an opening answers.
use Rattle.std.specs.Prelude.{ℕ, List, Option}
use Rattle.atomic_table.specs.Seated.{TableId}
use Rattle.lot_rights.specs.Rule.{Meaning}
use Rattle.lot_rights.specs.Shown.{PassShown, RootShown, pass_at_table, root_at_table}
use Rattle.lot_rights.specs.Start.{new_pass, new_root}
use Rattle.lot_words.specs.declared.views.LockPassView.{LockPassView}
use Rattle.lot_words.specs.declared.views.LockRootView.{LockRootView}
use Rattle.lot_words.specs.declared.views.Size.{Size}
use Rattle.lot_words.specs.CallersRule.{CallersRule}
use Rattle.lot_words.specs.Rule.{fresh_pass, fresh_root, meaning}

-- the values are those of the opening
pub record LockWordsShown (V : Type 0) : Type 0 where
  pub table : TableId
  pub size : Size
  pub values : List V

-- what this table stands for
abbrev pub meaning_of : {V Part : Type 0} → CallersRule V Part → LockWordsShown V → Meaning (Option V) (LockPassView V) LockRootView
meaning_of rule words = meaning rule words.size words.values

-- the pass of t, where xs are the opening values, and the root of l
abbrev pub pass_at : {V : Type 0} → TableId → List V → ℕ → PassShown (LockPassView V)
pass_at table xs t = pass_at_table table (new_pass (λ u. fresh_pass xs) t)

abbrev pub root_at : TableId → ℕ → RootShown LockRootView
root_at table l = root_at_table table (new_root (λ k. fresh_root) l)
