-- No two keys have one word, and none has a letter's; and all lie in their table.
use Rattle.std.proofs.Common.{◌≡◌, ℕ, ◌<◌, arith}
use Rattle.lot_rights.specs.Layout.{word_at, letter_at, word_count}

pub word_apart : (c d : ℕ) → word_at c ≡ word_at d → c ≡ d
unfolding word_at
word_apart c d e = omega arith

pub apart_letter : (c t : ℕ) → word_at c ≡ letter_at t → ⊥
unfolding word_at
apart_letter c t e = omega arith

pub word_within : (n m c : ℕ) → c < m → word_at c < word_count n m
unfolding word_at
word_within n m c below = omega arith

-- of a table of so many words
pub words_near : (n m w : ℕ) → w ≡ word_count n m → (k : ℕ) → k < m → word_at k < w
words_near n m w is k below = omega (arith, is, word_within n m k below)

pub words_small : (n m w : ℕ) → n < 4294967296 → m < 4294967296 → w ≡ word_count n m → w < 18446744073709551616
words_small n m w few_threads few_keys is = omega arith
