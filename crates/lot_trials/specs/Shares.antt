-- Two threads that count, each a number of its own.
use Rattle.std.specs.Prelude.{ℕ, zero, suc}

-- what a thread counted of the numbers that two threads counted
abbrev pub own_share : ℕ → ℕ → ℕ → ℕ
own_share zero first second = first
own_share (suc zero) first second = second
own_share (suc (suc t)) first second = 0
