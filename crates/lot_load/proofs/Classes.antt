-- The classes of times.
use Rattle.std.proofs.Common.{◌≡◌, ℕ, ◌+◌, ◌-◌, ◌*◌, ◌/◌, ◌%◌, ◌^◌, ◌<◌, ◌≤◌, arith, inr, inl, refl}
use Rattle.std.proofs.lemmas.Nat.{pow-add, mul-le}
use Rattle.std.proofs.Math.Nat.{mul-le-mul_right, pow-le-pow_right, mod-eq_of_lt}
use Rattle.lot_load.specs.Classes.{IsLeastOf}

-- one bit less is told of a time
pub one_bit_less : (bits rest nanos : ℕ) → bits * 2 ^ rest ≤ nanos → nanos < (bits + 1) * 2 ^ rest
    → (bits / 2 * 2 ^ (rest + 1) ≤ nanos) × (nanos < (bits / 2 + 1) * 2 ^ (rest + 1))
one_bit_less bits rest nanos least below =
    let p = 2 ^ rest in
    let h = bits / 2 in
    let twice : 2 ^ (rest + 1) ≡ p * 2 = pow-add 2 rest 1 in
    let low : h * 2 * p ≤ bits * p = mul-le-mul_right p (omega arith) in
    let high : (bits + 1) * p ≤ (h + 1) * 2 * p = mul-le-mul_right p (omega arith) in
    (rw twice (grind (arith, low, least)), rw twice (grind (arith, high, below)))

-- the least time of a class that has its bits here
pub least_is : (class : ℕ) → 32 ≤ class → class < 976 → IsLeastOf class ((class % 16 + 16) * 2 ^ (class / 16 - 1) % 2 ^ 64)
least_is class far near =
    let bits = class % 16 + 16 in
    let rest = class / 16 - 1 in
    let power : 2 ^ rest ≤ 2 ^ 59 = pow-le-pow_right {n = 2} (omega arith) {i = rest} {j = 59} (omega arith) in
    let fits = mul-le bits (2 ^ rest) 31 (2 ^ 59) (omega arith) power in
    let small : bits * 2 ^ rest < 2 ^ 64 = omega (arith, fits) in record {
      bits = bits;
      rest = rest;
      has = record { class_is = omega arith; five = omega arith; highest = inr (omega arith) };
      least = mod-eq_of_lt small;
    }

pub least_itself : (class : ℕ) → class < 32 → IsLeastOf class class
least_itself class near = record {
  bits = class;
  rest = 0;
  has = record { class_is = omega arith; five = near; highest = inl refl };
  least = omega arith;
}
