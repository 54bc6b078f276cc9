-- The square of a sum is at most the sum of the squares, times how many there are.
use Rattle.std.proofs.Common.{ℕ, zero, suc, ◌+◌, ◌*◌, ◌≤◌, arith}
use Rattle.std.proofs.Math.Nat.{le_of_mul-le-mul_left}

twice_product : (a b : ℕ) → 2 * (a * b) ≤ a * a + b * b
twice_product zero b = grind arith
twice_product (suc a) zero = grind arith
twice_product (suc a) (suc b) = grind (arith, twice_product a b)

-- a summand more
between : (n s q x : ℕ) → s * s ≤ n * q → 2 * (s * x) ≤ n * (x * x) + q
between zero zero q x h = grind arith
between zero (suc s) q x h = absurd (grind (arith, h))
between (suc m) s q x h =
    let n = suc m in
    let mean = twice_product s (n * x) in
    le_of_mul-le-mul_left {k = n} (grind arith) (omega arith)

pub square_of_sum : (n s q x : ℕ) → s * s ≤ n * q → (s + x) * (s + x) ≤ (n + 1) * (q + x * x)
square_of_sum n s q x h = grind (arith, between n s q x h)
