-- An owner works on the value that it holds.
use Rattle.std.specs.Prelude.{◌≡◌, ◌≢◌, ℕ}
use Rattle.lot_words.specs.CallersRule.{CallersRule}
use Rattle.lot_sync.specs.Lot.{HeldView}

module _ {V Part : Type 0} (rule : CallersRule V Part) where
  -- the owner, who is this thread, leaves a value that keeps the rule, has grown, and has the other threads' parts
  -- unchanged
  pub record WorksOn (old : HeldView V) (thread : ℕ) (new : HeldView V) : Type 0 where
    pub key_same : new.key ≡ old.key
    pub kept : rule.keeps new.key new.value
    pub grown : rule.grows old.value new.value
    pub others : (t : ℕ) → t ≢ thread → rule.part t old.value ≡ rule.part t new.value
