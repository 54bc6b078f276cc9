-- Buckets in which nothing is left.
use Rattle.std.proofs.Common.{◌≡◌, ℕ, ◌<◌, List, [], ◌∷◌, ◌++◌, Option, Some, length, get_or, false, ap, subst, ◌∙◌, arith, length-append}
use Rattle.std.specs.Option.{option_to_list}
use Rattle.std.proofs.Math.Seq.{get_or-append_seam}
use Rattle.std.proofs.lemmas.List.{get_or_append_left}
use Rattle.lot_bucket.specs.Places.{root_at}
use Rattle.lot_bucket.specs.Contents.{Contents}
use Rattle.lot_bucket.specs.KeyLine.{KeyLine}
use Rattle.lot_bucket.specs.Agrees.{IsSpent, AgreesClosed}
use Rattle.lot_bucket.specs.Settled.{Lying, IsSettled}
use Rattle.lot_table.specs.Buckets.{IsFresh}

module _ {R : Type 0} where
  pub fresh_spent : (size number keys threads : ℕ) (b : Contents R) → IsFresh size number keys threads b → IsSpent b
  fresh_spent size number keys threads b fresh = record { closed = fresh.closed; empty = fresh.empty; rootless = fresh.rootless }

module _ {R : Type 0} (view : R → KeyLine) where
  -- what lies closed behind a lock
  pub settled_spent : (lying : Lying R) (b : Contents R) → IsSettled view lying → b ≡ lying.bucket → lying.bucket.opened ≡ false → IsSpent b
  settled_spent lying b settled is closed =
      let left = settled.agrees.closed_agrees closed in
      rw is (record { closed = closed; empty = left.empty; rootless = left.rootless })

  -- an empty bucket that was closed
  pub closed_spent : (b c : Contents R) → AgreesClosed view b → c ≡ record b { opened = false } → IsSpent c
  closed_spent b c left is =
      record {
        closed = ap (λ (x : Contents R). x.opened) is;
        empty = ap (λ (x : Contents R). x.queue) is ∙ left.empty;
        rootless = λ k. ap (λ (x : Contents R). root_at k x.places) is ∙ left.rootless k;
      }

module _ {X : Type 0} (P : ℕ → X → Type 0) (xs ys : List X) (r : Option X) where
  -- what is said of each at its place is so of those that are left, where the last was taken out
  pub all_left : xs ≡ ys ++ option_to_list r → ((i : ℕ) (d : X) → i < length xs → P i (get_or xs i d)) → (i : ℕ) (d : X)
      → i < length ys → P i (get_or ys i d)
  all_left is all i d near =
      subst (λ x. P i x) (ap (λ zs. get_or zs i d) is ∙ get_or_append_left ys (option_to_list r) d i near)
      (all i d (rw is (omega (arith, length-append ys (option_to_list r), near))))

  -- and of the one that was taken out
  pub last_out : (x : X) → xs ≡ ys ++ option_to_list r → r ≡ Some x
      → ((i : ℕ) (d : X) → i < length xs → P i (get_or xs i d)) → P (length ys) x
  last_out x is some all =
      let last = is ∙ ap (λ o. ys ++ option_to_list o) some in
      subst (λ z. P (length ys) z) (ap (λ zs. get_or zs (length ys) x) last ∙ get_or-append_seam ys x [] x)
      (all (length ys) x (rw last (omega (arith, length-append ys (x ∷ [])))))
