-- The laws of buckets that upper layers cite, and those of lines and places, which stand below.
use Rattle.std.proofs.Common.{◌≡◌, ◌≢◌, ℕ, inl, inr, true, false, [], Some, None, sym, ◌∙◌, subst}
use Rattle.std.proofs.lemmas.Bool.Decides.{eqb_tells}
use Rattle.lot_bucket.specs.Queue.{line_of}
use Rattle.lot_bucket.specs.Places.{has_key, root_at, with_root}
use Rattle.lot_bucket.specs.Contents.{Contents}
use Rattle.lot_bucket.specs.KeyLine.{KeyLine}
use Rattle.lot_bucket.specs.Agrees.{IsRootOf, AgreesOpen, Agrees}
pub use Rattle.lot_places.proofs.Laws.{line_of-push_same, line_of-push_other, line_of-without_count_same, line_of-without_count_other}
pub use Rattle.lot_places.proofs.Laws.{line_of-without_key_same, line_of-without_key_other}
pub use Rattle.lot_places.proofs.Laws.{without_key-without_first, without_key_none, line_fits, first_of_line, root_at-with_same}
pub use Rattle.lot_places.proofs.Laws.{root_at-with_other, has_key-with, with_root-with}

module _ {R : Type 0} (view : R → KeyLine) where
  -- the root that is taken out of an open bucket that agrees
  pub root_taken : (b : Contents R) (k : ℕ) (root : R) → Agrees view b → b.opened ≡ true → has_key k b.places ≡ true
      → root_at k b.places ≡ Some root → IsRootOf view k b.queue root
  root_taken b k root agrees is_open has at =
      let own = (agrees.open_agrees is_open).roots k has in
      let same : own.0 ≡ root = let e : Some own.0 ≡ Some root = sym own.1 ∙ at in cc in
      subst (λ (r : R). IsRootOf view k b.queue r) same own.2

  -- a key's root was taken out of an open bucket and is back, and the lines of other keys are as before
  module _ (before after : Contents R) (k : ℕ) (root : R) (agrees : Agrees view before) (was_open : before.opened ≡ true)
      (has : has_key k before.places ≡ true) (is_open : after.opened ≡ true)
      (places : after.places ≡ with_root k (Some root) (with_root k None before.places))
      (lines : (j : ℕ) → k ≢ j → line_of j after.queue ≡ line_of j before.queue) (fits : IsRootOf view k after.queue root) where
    -- it was open, and agreed
    was : AgreesOpen view before
    was = agrees.open_agrees was_open

    -- the bucket has the same keys
    keys_again : (j : ℕ) → has_key j after.places ≡ has_key j before.places
    keys_again j = rw places (has_key-with j k (Some root) (with_root k None before.places) ∙ has_key-with j k None before.places)

    -- the key has its root
    root_again : root_at k after.places ≡ Some root
    root_again = rw places (root_at-with_same k (Some root) (with_root k None before.places) (has_key-with k k None before.places ∙ has))

    -- and the others have theirs
    roots_else : (j : ℕ) → k ≢ j → root_at j after.places ≡ root_at j before.places
    roots_else j other = rw places (root_at-with_other j k (Some root) (with_root k None before.places) other
        ∙ root_at-with_other j k None before.places other)

    -- each key of the bucket has a root that fits its line
    roots_fit : (j : ℕ) → has_key j after.places ≡ true → (r : R) × (root_at j after.places ≡ Some r) × IsRootOf view j after.queue r
    roots_fit j h =
        elim (eqb_tells k j) [
          | inl e ↦ let P : ℕ → Type 0 = λ n. (r : R) × (root_at n after.places ≡ Some r) × IsRootOf view n after.queue r in
              subst P e.1 (root, root_again, fits)
          | inr e ↦ let old = was.roots j (sym (keys_again j) ∙ h) in (
            old.0,
            roots_else j e.1 ∙ old.1,
            record { named = old.2.named; same_line = old.2.same_line ∙ sym (lines j e.1); paid = old.2.paid },
          )
        ]

    -- nobody waits at another key
    nobody_else : (j : ℕ) → has_key j after.places ≡ false → line_of j after.queue ≡ []
    nobody_else j none =
        elim (eqb_tells k j) [
          | inl e ↦ absurd (let f : has_key j before.places ≡ true = subst (λ (n : ℕ). has_key n before.places ≡ true) e.1 has in
              let x : true ≡ false = sym f ∙ sym (keys_again j) ∙ none in cc)
          | inr e ↦ lines j e.1 ∙ was.pairs j (sym (keys_again j) ∙ none)
        ]

    -- The restoring law: where a key's root was taken out and is back, fits its key's line and owes nothing,
    -- and the lines of other keys are as before, the bucket agrees again.
    pub agrees_again : Agrees view after
    agrees_again = record {
      open_agrees = λ _. record { roots = roots_fit; pairs = nobody_else };
      closed_agrees = λ closed. absurd (let e : true ≡ false = sym is_open ∙ closed in cc);
    }
