-- What is so of a pass that has taken nobody, and of what the lot tells of a line and its letters.
use Rattle.std.proofs.Common.{◌≡◌, ℕ, ◌+◌, ◌≤◌, Bool, true, false, List, [], ◌∷◌, ◌++◌, length, drop, slice_index, slice_set, refl, ap, ◌∙◌}
use Rattle.std.proofs.Common.{arith}
use Rattle.std.proofs.lemmas.List.{set-get_or, length-drop}
use Rattle.lot_core.specs.Steps.{SaysMoreBehind}
use Rattle.lot_park.specs.Parking.{TellsCount, debts}
use Rattle.lot_scheme.specs.Standing.{LotStanding, called_more}

-- ---- the pass
-- whoever has taken nobody stands as before
pub none_called : {V : Type 0} (p : LotStanding V) (c : ℕ) → called_more p c 0 ≡ p
none_called p c =
    let same : slice_set p.own.conds.called c (slice_index p.own.conds.called c + 0) ≡ p.own.conds.called =
    ap (λ n. slice_set p.own.conds.called c n) (omega arith) ∙ set-get_or p.own.conds.called c 0
    in
    ap (λ (xs : List ℕ). record p { own = record p.own { conds = record p.own.conds { called = xs } } }) same

-- ---- what the lot tells
-- where some of the line are left, more may wait
pub says_more : (threads n : ℕ) (line : List ℕ) (taken : ℕ) (more : Bool) → 1 ≤ n → TellsCount threads n line taken more
    → SaysMoreBehind n line more
says_more threads n line taken true some told longer = refl
says_more threads n line taken false some told longer =
    let none : drop n line ≡ [] = told.alone some refl in
    absurd (omega (arith, longer, length-drop n line, ap length none))

-- ---- the root's letters
pub none_owed : (owes : List ℕ) → debts owes ≡ [] → owes ≡ []
none_owed [] none = refl
none_owed (x ∷ xs) none = absurd cc

-- who owed nobody owes these alone
pub owes_only : (owes line : List ℕ) → debts owes ≡ [] → debts (owes ++ line) ≡ debts line
owes_only owes line none = ap (λ (xs : List ℕ). debts (xs ++ line)) (none_owed owes none)
