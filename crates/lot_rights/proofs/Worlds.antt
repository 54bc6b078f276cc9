-- How a change of the world shows in the words and the letters.
use Rattle.std.proofs.Common.{◌≡◌, ◌≢◌, ℕ, ◌+◌, ◌<◌, List, replicate, get_or, set, sym, subst, ◌∙◌, arith, length-set, get_or-set_same}
use Rattle.std.proofs.Common.{get_or-set_other}
use Rattle.std.proofs.lemmas.List.{length-replicate}
use mathlib.Core.Logic.{dite}
use native.Mathlib.Decide.{ℕ_discrete}
use Rattle.lot_core.specs.Model.{put}
use Rattle.lot_core.proofs.Put.{told_put, told_same}
use Rattle.lot_core.proofs.Rows.{get_or_replicate}
use Rattle.lot_rights.specs.Layout.{word_at, letter_at, word_count}
use Rattle.lot_rights.proofs.Distinct.{word_apart, apart_letter, word_within}
use Rattle.lot_rights.specs.World.{Spot, World, Sizes, IsKeyOf, letter_of, letters_of, WordsFit}

-- ---- letters
-- the notice of t changes, but no letter
pub same_letters : (spot : ℕ → Spot) (t : ℕ) (sp : Spot) → letter_of sp ≡ letter_of (spot t) → letters_of (put spot t sp) ≡ letters_of spot
same_letters spot t sp e = told_same letter_of spot t sp e

pub one_letter : (spot : ℕ → Spot) (t : ℕ) (sp : Spot) → letters_of (put spot t sp) ≡ put (letters_of spot) t (letter_of sp)
one_letter spot t sp = told_put letter_of spot t sp

-- ---- words
module _ {P R W : Type 0} (number_in : W → ℕ) (z : Sizes) (w w' : World P R W) (ws : List ℕ) (ok : WordsFit number_in z w ws) where
  -- the word of c becomes x, and no other word or letter changes
  pub word_written : (c x : ℕ) → IsKeyOf z c → x ≡ number_in (w'.word c) → ((d : ℕ) → d ≢ c → number_in (w'.word d) ≡ number_in (w.word d))
      → letters_of w'.spot ≡ letters_of w.spot
      → WordsFit number_in z w' (set ws (word_at c) x)
  word_written c x among is others letters = record {
    wide = length-set ws (word_at c) x ∙ ok.wide;
    words = λ d near. dite (ℕ_discrete d c)
        (λ e. subst (λ y. get_or (set ws (word_at c) x) (word_at y) 0 ≡ number_in (w'.word y)) (sym e)
        (get_or-set_same ws (word_at c) x 0 (omega (arith, ok.wide, word_within z.threads (z.first + z.keys) c among.1)) ∙ is))
        (λ ne. get_or-set_other ws (word_at c) (word_at d) x 0 (λ e. ne (word_apart d c e)) ∙ (ok.words d near ∙ sym (others d ne)));
    letters = λ t near. get_or-set_other ws (word_at c) (letter_at t) x 0 (λ e. apart_letter c t (sym e))
        ∙ (ok.letters t near ∙ sym (λ i. letters i t));
  }

  -- the letter of t becomes x, and no other letter or word changes
  pub letter_written : (t x : ℕ) → t < z.threads → x ≡ letter_of (w'.spot t)
      → ((u : ℕ) → u ≢ t → letter_of (w'.spot u) ≡ letter_of (w.spot u))
      → ((d : ℕ) → number_in (w'.word d) ≡ number_in (w.word d))
      → WordsFit number_in z w' (set ws (letter_at t) x)
  letter_written t x near is others words = record {
    wide = length-set ws (letter_at t) x ∙ ok.wide;
    words = λ d among. get_or-set_other ws (letter_at t) (word_at d) x 0 (apart_letter d t) ∙ (ok.words d among ∙ sym (words d));
    letters = λ u here. dite (ℕ_discrete u t)
        (λ e. subst (λ y. get_or (set ws (letter_at t) x) (letter_at y) 0 ≡ letter_of (w'.spot y)) (sym e)
        (get_or-set_same ws (letter_at t) x 0 (let g = ok.wide in omega arith) ∙ is))
        (λ ne. get_or-set_other ws (letter_at t) (letter_at u) x 0 (λ e. ne (omega arith)) ∙ (ok.letters u here ∙ sym (others u ne)));
  }

-- ---- at the opening
-- where all words are 0, and all that they stand for says 0
pub fresh_words : {P R W : Type 0} (number_in : W → ℕ) (z : Sizes) (w : World P R W) → ((c : ℕ) → number_in (w.word c) ≡ 0)
    → ((t : ℕ) → letter_of (w.spot t) ≡ 0)
    → WordsFit number_in z w (replicate (word_count z.threads (z.first + z.keys)) 0)
fresh_words number_in z w words letters =
    let n : ℕ = word_count z.threads (z.first + z.keys) in
    record {
      wide = length-replicate n 0;
      words = λ c is. get_or_replicate 0 n (word_at c) ∙ sym (words c);
      letters = λ t near. get_or_replicate 0 n (letter_at t) ∙ sym (letters t);
    }
