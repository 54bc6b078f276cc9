-- Sums over the first numbers, of which some change.
use Rattle.std.proofs.Common.{◌≡◌, ◌≢◌, ℕ, zero, suc, ◌+◌, ◌<◌, ◌≤◌, Bool, true, false, List, length, take, refl, sym, ap, ◌∙◌, arith, inl}
use Rattle.std.proofs.Common.{inr, add-one}
use Rattle.std.specs.Prelude.{sum}
use Rattle.std.proofs.lemmas.Bool.{cases_eq}
use Rattle.std.proofs.lemmas.List.{take_all}
use Rattle.std.proofs.lemmas.List.Sums.{sum_by_more}
use Rattle.lot_core.specs.Sums.{total, bit}
use Rattle.lot_core.specs.Rows.{row}
use Rattle.lot_core.proofs.Rows.{row_at}

pub total_same : (n : ℕ) (f g : ℕ → ℕ) → ((t : ℕ) → t < n → f t ≡ g t) → total n f ≡ total n g
total_same zero f g e = refl
total_same (suc n) f g e = omega (arith, total_same n f g (λ t h. e t (omega arith)), e n (omega arith))

-- two functions that differ at t alone
pub total_but : (n : ℕ) (f g : ℕ → ℕ) (t : ℕ) → t < n → ((u : ℕ) → u ≢ t → f u ≡ g u) → total n f + g t ≡ total n g + f t
total_but zero f g t near e = absurd (omega arith)
total_but (suc n) f g t near e = elim (cases_eq t n) [
  | inl here ↦
      let a : f t ≡ f n = ap f here in
      let b : g t ≡ g n = ap g here in
      let rest : total n f ≡ total n g = total_same n f g (λ u h. e u (λ q. omega arith)) in
      omega arith
  | inr else ↦ omega (arith, total_but n f g t (omega arith) e, e n (λ q. else (sym q)))
]

pub total_none : (n : ℕ) → total n (λ t. 0) ≡ 0
total_none zero = refl
total_none (suc n) = omega (arith, total_none n)

pub bit_le : (b : Bool) → bit b ≤ 1
bit_le true = omega arith
bit_le false = omega arith

-- the sum of a list's elements
pub total_take : (xs : List ℕ) (n : ℕ) → n ≤ length xs → total n (row 0 xs) ≡ sum (take n xs)
total_take xs zero within = refl
total_take xs (suc n) within =
    let more : sum (take (n + 1) xs) ≡ sum (take n xs) + _ = sum_by_more (λ x. x) xs n 0 (omega arith) in
    let next : sum (take (n + 1) xs) ≡ sum (take (suc n) xs) = ap (λ m. sum (take m xs)) (add-one n) in
    omega (arith, total_take xs n (omega arith), row_at 0 xs n, more, next)

pub total_row : (xs : List ℕ) (n : ℕ) → length xs ≡ n → total n (row 0 xs) ≡ sum xs
total_row xs n is = total_take xs n (omega arith) ∙ ap sum (take_all n xs (omega arith))
