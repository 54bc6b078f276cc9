-- What a buffer keeps, how it goes on, and what a put and a take do.
use Rattle.std.specs.Prelude.{◌≡◌, ◌+◌, ◌<◌, ◌≤◌, ◌++◌, ℕ, List, [], ◌∷◌, length}
use Rattle.lot_sync.specs.Lot.{PassView, HeldView}
use Rattle.lot_sync.specs.Holding.{Holding}
use Rattle.lot_load.specs.Growing.{NeitherFalls}
use Rattle.lot_load.specs.declared.buffer.Buffer.{Buffer}
use Rattle.lot_load.specs.declared.buffer.TakenNumber.{TakenNumber}
use Rattle.lot_load.specs.declared.buffer.TakenNumber.TheVariants.{Got, Empty, TooMuch}

-- the greatest number of 64 bits
abbrev pub most : ℕ
most = 18446744073709551615

-- at most four numbers lie in it, and they are what was put and not taken
pub record IsFilled (buffer : Buffer) : Type 0 where
  pub few : length buffer.places.items ≤ 4
  pub rest : buffer.taken + length buffer.places.items ≡ buffer.put

-- what was put and taken before is counted still
abbrev pub HasMoved : Buffer → Buffer → Type 0
HasMoved = NeitherFalls (λ buffer. buffer.put) (λ buffer. buffer.taken)

-- the number lies behind all others, and is counted
pub record IsPut (old : Buffer) (n : ℕ) (new : Buffer) : Type 0 where
  pub items : new.places.items ≡ old.places.items ++ n ∷ []
  pub put : new.put ≡ old.put + 1
  pub taken : new.taken ≡ old.taken
  pub sum : new.sum ≡ old.sum

-- the number lay before all others, and is counted
pub record IsTaken (old : Buffer) (n : ℕ) (new : Buffer) : Type 0 where
  pub items : old.places.items ≡ n ∷ new.places.items
  pub put : new.put ≡ old.put
  pub taken : new.taken ≡ old.taken + 1
  pub sum : new.sum ≡ old.sum + n

-- the number that lies longest would bring the sum past the greatest number
pub record PassesMost (buffer : Buffer) : Type 0 where
  pub first : ℕ
  pub others : List ℕ
  pub items : buffer.places.items ≡ first ∷ others
  pub past : most < buffer.sum + first

-- what a take answers, and what it leaves
abbrev pub TakesAs : Buffer → TakenNumber → Buffer → Type 0
TakesAs old (Got n) new = IsTaken old n new
TakesAs old Empty new = (old.places.items ≡ []) × (new ≡ old)
TakesAs old TooMuch new = PassesMost old × (new ≡ old)

-- the pass owns the buffer's lock alone, and has the buffer
pub record HasBuffer (pass : PassView Buffer) (held : HeldView Buffer) : Type 0 where
  pub key : held.key ≡ 0
  pub kept : IsFilled held.value
  pub holding : Holding HasMoved pass held
