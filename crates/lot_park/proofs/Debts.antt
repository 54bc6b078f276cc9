-- Letters that are owed, for whoever posts them.
use Rattle.std.proofs.Common.{rules, ◌≡◌, ℕ, zero, suc, List, [], ◌∷◌, arith}
use Rattle.std.specs.List.{Contains}
use Rattle.lot_park.specs.Parking.{without_debt}

-- a single letter that is owed is the one
pub owed_alone : (d : ℕ × ℕ) (thread token : ℕ) → Contains (d ∷ []) (thread, token) → d ≡ (thread, token)
owed_alone d thread token (zero, lt, same) = same
owed_alone d thread token (suc i, lt, same) = absurd (omega (arith, lt))

-- nothing is owed
pub owed_none : (thread token : ℕ) → Contains {X = ℕ × ℕ} [] (thread, token) → ⊥
owed_none thread token owed = omega (arith, owed.1)

-- the first letter is posted
pub without_first_debt : (thread token : ℕ) (ds : List (ℕ × ℕ)) → without_debt thread token ((thread, token) ∷ ds) ≡ ds
without_first_debt thread token ds = search (rules, without_debt)
