-- Conditions that stand behind so many locks, in the order of the locks, so many for each.
use Rattle.std.specs.Prelude.{ℕ, ◌+◌, ◌*◌}

abbrev pub first_cond : (locks each key : ℕ) → ℕ
first_cond locks each key = locks + each * key

abbrev pub behind_cond : (locks each key : ℕ) → ℕ
behind_cond locks each key = locks + each * key + each
