-- The classes of times: a nanosecond each below 32, and sixteen to each doubling from there on.
use Rattle.std.specs.Prelude.{◌≡◌, ◌⊎◌, ◌+◌, ◌*◌, ◌^◌, ◌<◌, ◌≤◌, ℕ}

-- of a time from 32 on the class tells the five highest bits, and how many bits follow
pub record HasBits (class bits rest : ℕ) : Type 0 where
  pub class_is : class ≡ 16 * rest + bits
  pub five : bits < 32
  pub highest : (rest ≡ 0) ⊎ (16 ≤ bits)

-- the class of a time
pub record IsClassOf (nanos class : ℕ) : Type 0 where
  pub bits : ℕ
  pub rest : ℕ
  pub has : HasBits class bits rest
  pub least : bits * 2 ^ rest ≤ nanos
  pub below : nanos < (bits + 1) * 2 ^ rest

-- the least time of a class
pub record IsLeastOf (class nanos : ℕ) : Type 0 where
  pub bits : ℕ
  pub rest : ℕ
  pub has : HasBits class bits rest
  pub least : nanos ≡ bits * 2 ^ rest
