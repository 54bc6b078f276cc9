-- Conditions that stand behind the locks: each belongs to one lock.
use Rattle.std.proofs.Common.{◌≡◌, ℕ, ◌≤◌, ◌<◌, arith}
use Rattle.lot_regions.specs.Conds.{first_cond, behind_cond}

pub conds_apart : (locks each k l c : ℕ) → first_cond locks each k ≤ c → c < behind_cond locks each k → first_cond locks each l ≤ c
    → c < behind_cond locks each l → k ≡ l
conds_apart locks each k l c a b d e = grind (arith, a, b, d, e)
