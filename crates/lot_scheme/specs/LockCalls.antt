-- What a call of a lock makes of how a pass stands.
use Rattle.std.specs.Prelude.{◌≡◌, ℕ, [], ◌∷◌}
use Rattle.lot_rights.specs.declared.views.Access.{Access}
use Rattle.lot_words.specs.CallersRule.{CallersRule}
use Rattle.lot_words.specs.Values.{IsIn, FoundOk}
use Rattle.lot_scheme.specs.Standing.{LotStanding, adding, owning, letting_go}

module _ {V : Type 0} where
  -- the lock was let go by this access, and the value that lies in its slot was left there
  abbrev pub FreesLock : LotStanding V → ℕ → Access → LotStanding V → Type 0
  FreesLock p l a q = (y : V) × IsIn p.own.locks l y × (q ≡ adding (letting_go p l y) (a ∷ []))

module _ {V Part : Type 0} (rule : CallersRule V Part) where
  -- the lock was got by this access, with the value that was found there
  abbrev pub GetsLock : LotStanding V → ℕ → Access → LotStanding V → Type 0
  GetsLock p l a q = (x : V) × FoundOk rule l p.thread p.own.locks x × (q ≡ adding (owning p l x) (a ∷ []))
