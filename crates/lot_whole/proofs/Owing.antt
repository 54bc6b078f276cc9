-- What the roots of a key's kind owe is all that is owed there.
use Rattle.std.proofs.Common.{◌≡◌, ℕ, List, length, refl}
use Rattle.lot_rights.specs.World.{number_of}
use Rattle.lot_rights.proofs.Owing.{owed_else}
use Rattle.lot_words.specs.CallersRule.{CallersRule}
use Rattle.lot_words.specs.declared.views.LockRootView.{LockRootView}
use Rattle.lot_conds.specs.declared.views.CondRootView.{CondRootView}
use Rattle.lot_whole.specs.Family.{Which, lock, cond, sem, LotSize, sizes_in, IsKeyIn}
use Rattle.lot_whole.specs.Lot.{sum_of, LotWorld, owed_in}
use Rattle.lot_whole.proofs.Family.{three_one, keys_apart}

module _ {V Part : Type 0} (rule : CallersRule V Part) (z : LotSize) (xs : List V) (w : LotWorld rule z xs) (c : ℕ) where
  owed_elsewhere : (k : Which) → (¬ IsKeyIn z k c) → owed_in rule z xs w k c ≡ 0
  owed_elsewhere lock out = owed_else (sizes_in z lock) (λ (q : LockRootView). number_of q.owes) (w.each lock).root c out
  owed_elsewhere cond out = owed_else (sizes_in z cond) (λ (q : CondRootView). length q.owes) (w.each cond).root c out
  owed_elsewhere sem out = owed_else (sizes_in z sem) number_of (w.each sem).owes c out

  pub owed_by_kind : (j : Which) → IsKeyIn z j c → sum_of (owed_in rule z xs w) c ≡ owed_in rule z xs w j c
  owed_by_kind j is = three_one (owed_in rule z xs w) j c (λ k ne. owed_elsewhere k (λ here. keys_apart z k j c c here is ne refl))
