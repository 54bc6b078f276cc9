-- Sums over passes, modulo 2^64.
use Rattle.std.proofs.Common.{◌≡◌, ℕ, ◌+◌, List, [], ◌∷◌, length, map, slice_index, sum_by, reverse, replicate, refl, sym, ap, ◌∙◌, arith}
use Rattle.std.proofs.lemmas.List.{reverse-append, length-replicate, get_or-replicate}
use Rattle.std.proofs.lemmas.List.Sums.{sum_by_push, sum_by-cons}
use Rattle.lot_rights.specs.Shown.{PassShown}
use Rattle.lot_whole.specs.declared.views.LotPassView.{LotPassView}
use Rattle.lot_whole.specs.Closing.{called_in, woken_in}
use Rattle.lot_waits.specs.declared.tallies.Tallies.{Tallies}
use Rattle.lot_waits.specs.Counts.{CountsView, wrap, counts_shown}
use Rattle.lot_waits.specs.Ledger.{AreSums, AreBothSums, AreZeros, IsBalanced, called_at, woken_at}

-- no waiter yet
pub sums_of_none : (locks conds : ℕ) (count_at : ℕ → CountsView → ℕ) (sums : List ℕ) → sums ≡ replicate conds 0
    → AreSums locks conds count_at [] sums
sums_of_none locks conds count_at sums e = record {
  long = ap length e ∙ length-replicate conds 0;
  each = λ i near. ap (λ xs. slice_index xs i) e ∙ get_or-replicate conds i 0 0 near;
}

-- a sum does not depend on the order
sum_turned : {A : Type 0} (f : A → ℕ) (xs : List A) → sum_by f (reverse xs) ≡ sum_by f xs
sum_turned f [] = refl
sum_turned f (x ∷ xs) =
    ap (sum_by f) (reverse-append (x ∷ []) xs) ∙ (sum_by_push f (reverse xs) x ∙ omega (arith, sum_turned f xs, sum_by-cons f x xs))

pub sums_turned : (locks conds : ℕ) (count_at : ℕ → CountsView → ℕ) (waiters : List CountsView) (sums : List ℕ)
    → AreSums locks conds count_at waiters sums → AreSums locks conds count_at (reverse waiters) sums
sums_turned locks conds count_at waiters sums are = record {
  long = are.long;
  each = λ i near. are.each i near ∙ ap wrap (sym (sum_turned (count_at (locks + i)) waiters));
}

-- ---- the balance
sum_mapped : {A B : Type 0} (f : A → B) (g : B → ℕ) (xs : List A) → sum_by g (map f xs) ≡ sum_by (λ x. g (f x)) xs
sum_mapped f g [] = refl
sum_mapped f g (x ∷ xs) = sum_by-cons g (f x) (map f xs)
    ∙ (ap (λ n. g (f x) + n) (sum_mapped f g xs) ∙ sym (sum_by-cons (λ y. g (f y)) x xs))

-- what the passes have counted is balanced, where all that were taken have woken
pub balanced_of : {V : Type 0} (passes : List (PassShown (LotPassView V))) → ((c : ℕ) → called_in passes c ≡ woken_in passes c)
    → IsBalanced (map counts_shown passes)
balanced_of passes even c = sum_mapped counts_shown (called_at c) passes ∙ (even c ∙ sym (sum_mapped counts_shown (woken_at c) passes))

-- ---- both sums
pub tallied_none : (locks conds : ℕ) (sums : Tallies) → AreZeros conds sums → AreBothSums locks conds [] sums
tallied_none locks conds sums zeros = record {
  called_sums = sums_of_none locks conds called_at sums.called.items zeros.0;
  woken_sums = sums_of_none locks conds woken_at sums.woken.items zeros.1;
}

pub tallied_turned : (locks conds : ℕ) (waiters : List CountsView) (sums : Tallies) → AreBothSums locks conds waiters sums
    → AreBothSums locks conds (reverse waiters) sums
tallied_turned locks conds waiters sums are = record {
  called_sums = sums_turned locks conds called_at waiters sums.called.items are.called_sums;
  woken_sums = sums_turned locks conds woken_at waiters sums.woken.items are.woken_sums;
}
