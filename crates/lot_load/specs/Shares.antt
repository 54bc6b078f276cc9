-- How evenly threads share the rounds.
use Rattle.std.specs.Prelude.{◌≡◌, ◌+◌, ◌*◌, ◌/◌, ℕ, min, max}
use Rattle.lot_load.specs.declared.measure.shares.Shares.{Shares}
use Rattle.lot_load.specs.declared.measure.shares.TheConstants.{PARTS}
use Rattle.lot_load.specs.Buffers.{most}

-- the share of a thread that made so many of all rounds
abbrev pub part_of : ℕ → ℕ → ℕ
part_of rounds all = min (min (rounds * PARTS) most / max all 1) PARTS

-- one share more is counted
pub record HasShare (old : Shares) (part : ℕ) (new : Shares) : Type 0 where
  pub count : new.count ≡ old.count + 1
  pub sum : new.sum ≡ old.sum + part
  pub squares : new.squares ≡ old.squares + part * part
  pub least : new.least ≡ min old.least part
  pub greatest : new.most ≡ max old.most part
