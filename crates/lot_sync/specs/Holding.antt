-- What a caller may have of a pass: that it owns one lock, or two, with values that it may give back.
use Rattle.std.specs.Prelude.{◌≡◌, ◌≢◌, ℕ, ◌<◌, length}
use Rattle.lot_sync.specs.Lot.{PassView, HeldView, Owns, HasSeen, permits_with}

module _ {V : Type 0} (grows : V → V → Type 0) where
  -- it owns one lock, of which it has seen a value, and holds no permit
  pub record Holding (pass : PassView V) (held : HeldView V) : Type 0 where
    pub owns : Owns pass held.key
    pub alone : (key : ℕ) → key ≢ held.key → ¬ Owns pass key
    pub no_permit : (key : ℕ) → permits_with pass key ≡ 0
    pub knows : held.key < length pass.seen
    pub grown : (u : V) → HasSeen pass held.key u → grows u held.value

  -- it owns two locks, of each of which it has seen a value, and holds no permit
  pub record HoldingBoth (pass : PassView V) (first second : HeldView V) : Type 0 where
    pub two : second.key ≢ first.key
    pub owns_first : Owns pass first.key
    pub owns_second : Owns pass second.key
    pub alone : (key : ℕ) → key ≢ first.key → key ≢ second.key → ¬ Owns pass key
    pub no_permit : (key : ℕ) → permits_with pass key ≡ 0
    pub knows_first : first.key < length pass.seen
    pub knows_second : second.key < length pass.seen
    pub grown_first : (u : V) → HasSeen pass first.key u → grows u first.value
    pub grown_second : (u : V) → HasSeen pass second.key u → grows u second.value
