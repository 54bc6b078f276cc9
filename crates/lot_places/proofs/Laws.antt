-- The laws of lines and places that upper layers cite.
use Rattle.std.proofs.Common.{◌≡◌, ◌≢◌, ℕ, zero, suc, ◌≤◌, inl, inr, true, List, [], ◌∷◌, ◌++◌, drop, length, Option, Some, refl, sym, ◌∙◌}
use Rattle.std.proofs.Common.{ap, arith}
use Rattle.std.proofs.lemmas.Bool.Decides.{eqb_tells}
use Rattle.lot_places.specs.Queue.{line_of, without_count, without_first, without_key, first_of}
use Rattle.lot_places.specs.Places.{has_key, root_at, with_root}

pub line_of-push_same : (k t : ℕ) (queue : List (ℕ × ℕ)) → line_of k (queue ++ (t, k) ∷ []) ≡ line_of k queue ++ t ∷ []
line_of-push_same k t [] = elim (eqb_tells k k) [ inl e ↦ rw e.0 refl | inr e ↦ absurd (e.1 refl) ]
line_of-push_same k t (p ∷ queue) =
    elim (eqb_tells p.1 k) [
      | inl e ↦ rw e.0 (ap (λ xs. p.0 ∷ xs) (line_of-push_same k t queue))
      | inr e ↦ rw e.0 (line_of-push_same k t queue)
    ]

pub line_of-push_other : (j k t : ℕ) (queue : List (ℕ × ℕ)) → k ≢ j → line_of j (queue ++ (t, k) ∷ []) ≡ line_of j queue
line_of-push_other j k t [] other = elim (eqb_tells k j) [ inl e ↦ absurd (other e.1) | inr e ↦ rw e.0 refl ]
line_of-push_other j k t (p ∷ queue) other =
    elim (eqb_tells p.1 j) [
      | inl e ↦ rw e.0 (ap (λ xs. p.0 ∷ xs) (line_of-push_other j k t queue other))
      | inr e ↦ rw e.0 (line_of-push_other j k t queue other)
    ]

pub line_of-without_count_same : (n k : ℕ) (queue : List (ℕ × ℕ)) → line_of k (without_count n k queue) ≡ drop n (line_of k queue)
line_of-without_count_same zero k queue = refl
line_of-without_count_same (suc n) k [] = refl
line_of-without_count_same (suc n) k (p ∷ queue) =
    elim (eqb_tells p.1 k) [
      | inl e ↦ rw e.0 (line_of-without_count_same n k queue)
      | inr e ↦ rw e.0 (rw e.0 (line_of-without_count_same (suc n) k queue))
    ]

pub line_of-without_count_other : (j n k : ℕ) (queue : List (ℕ × ℕ)) → k ≢ j → line_of j (without_count n k queue) ≡ line_of j queue
line_of-without_count_other j zero k queue other = refl
line_of-without_count_other j (suc n) k [] other = refl
line_of-without_count_other j (suc n) k (p ∷ queue) other =
    elim (eqb_tells p.1 k) [
      | inl e ↦
          rw e.0
          (elim (eqb_tells p.1 j) [
            | inl f ↦ absurd (other (sym e.1 ∙ f.1))
            | inr f ↦ rw f.0 (line_of-without_count_other j n k queue other)
          ])
      | inr e ↦ rw e.0 (elim (eqb_tells p.1 j) [
        | inl f ↦ rw f.0 (ap (λ xs. p.0 ∷ xs) (line_of-without_count_other j (suc n) k queue other))
        | inr f ↦ rw f.0 (line_of-without_count_other j (suc n) k queue other)
      ])
    ]

pub line_of-without_key_same : (k : ℕ) (queue : List (ℕ × ℕ)) → line_of k (without_key k queue) ≡ []
line_of-without_key_same k [] = refl
line_of-without_key_same k (p ∷ queue) =
    elim (eqb_tells p.1 k) [
      | inl e ↦ rw e.0 (line_of-without_key_same k queue)
      | inr e ↦ rw e.0 (rw e.0 (line_of-without_key_same k queue))
    ]

pub line_of-without_key_other : (j k : ℕ) (queue : List (ℕ × ℕ)) → k ≢ j → line_of j (without_key k queue) ≡ line_of j queue
line_of-without_key_other j k [] other = refl
line_of-without_key_other j k (p ∷ queue) other =
    elim (eqb_tells p.1 k) [
      | inl e ↦
          rw e.0
          (elim (eqb_tells p.1 j) [ inl f ↦ absurd (other (sym e.1 ∙ f.1)) | inr f ↦ rw f.0 (line_of-without_key_other j k queue other) ])
      | inr e ↦ rw e.0 (elim (eqb_tells p.1 j) [
        | inl f ↦ rw f.0 (ap (λ xs. p.0 ∷ xs) (line_of-without_key_other j k queue other))
        | inr f ↦ rw f.0 (line_of-without_key_other j k queue other)
      ])
    ]

pub without_key-without_first : (k : ℕ) (queue : List (ℕ × ℕ)) → without_key k (without_first k queue) ≡ without_key k queue
without_key-without_first k [] = refl
without_key-without_first k (p ∷ queue) =
    elim (eqb_tells p.1 k) [
      | inl e ↦ rw e.0 refl
      | inr e ↦ rw e.0 (rw e.0 (ap (λ q. p ∷ q) (without_key-without_first k queue)))
    ]

pub without_key_none : (k : ℕ) (queue : List (ℕ × ℕ)) → line_of k queue ≡ [] → without_key k queue ≡ queue
without_key_none k [] none = refl
without_key_none k (p ∷ queue) none =
    elim (eqb_tells p.1 k) [
      | inl e ↦ absurd (let h : p.0 ∷ line_of k queue ≡ [] = rw e.0 at none in cc)
      | inr e ↦ rw e.0 (ap (λ q. p ∷ q) (without_key_none k queue (rw e.0 at none)))
    ]

-- no line is longer than the queue
pub line_fits : (k : ℕ) (queue : List (ℕ × ℕ)) → length (line_of k queue) ≤ length queue
line_fits k [] = omega arith
line_fits k (p ∷ queue) =
    elim (eqb_tells p.1 k) [
      | inl e ↦ rw e.0 (omega (arith, line_fits k queue))
      | inr e ↦ rw e.0 (omega (arith, line_fits k queue))
    ]

-- a line that has a first thread is that thread and the others
pub first_of_line : (t : ℕ) (line : List ℕ) → Some t ≡ first_of line → line ≡ t ∷ drop 1 line
first_of_line t [] first = cc
first_of_line t (x ∷ line) first = cc

module _ {R : Type 0} where
  pub root_at-with_same : (k : ℕ) (root : Option R) (places : List (ℕ × Option R)) → has_key k places ≡ true
      → root_at k (with_root k root places) ≡ root
  root_at-with_same k root [] has = cc
  root_at-with_same k root (p ∷ places) has =
      elim (eqb_tells p.0 k) [
        | inl e ↦ rw e.0 (rw e.0 refl)
        | inr e ↦ rw e.0 (rw e.0 (root_at-with_same k root places (rw e.0 at has)))
      ]

  pub root_at-with_other : (j k : ℕ) (root : Option R) (places : List (ℕ × Option R)) → k ≢ j
      → root_at j (with_root k root places) ≡ root_at j places
  root_at-with_other j k root [] other = refl
  root_at-with_other j k root (p ∷ places) other =
      elim (eqb_tells p.0 k) [
        | inl e ↦ rw e.0 (elim (eqb_tells p.0 j) [ inl f ↦ absurd (other (sym e.1 ∙ f.1)) | inr f ↦ rw f.0 refl ])
        | inr e ↦ rw e.0 (elim (eqb_tells p.0 j) [
          | inl f ↦ rw f.0 refl
          | inr f ↦ rw f.0 (root_at-with_other j k root places other)
        ])
      ]

  pub has_key-with : (j k : ℕ) (root : Option R) (places : List (ℕ × Option R)) → has_key j (with_root k root places) ≡ has_key j places
  has_key-with j k root [] = refl
  has_key-with j k root (p ∷ places) =
      elim (eqb_tells p.0 k) [
        | inl e ↦ rw e.0 refl
        | inr e ↦ rw e.0 (elim (eqb_tells p.0 j) [
          | inl f ↦ rw f.0 refl
          | inr f ↦ rw f.0 (has_key-with j k root places)
        ])
      ]

  -- of two roots that were put at a key the later one is there
  pub with_root-with : (k : ℕ) (root before : Option R) (places : List (ℕ × Option R))
      → with_root k root (with_root k before places) ≡ with_root k root places
  with_root-with k root before [] = refl
  with_root-with k root before (p ∷ places) =
      elim (eqb_tells p.0 k) [
        | inl e ↦ rw e.0 (rw e.0 refl)
        | inr e ↦ rw e.0 (rw e.0 (ap (λ ps. p ∷ ps) (with_root-with k root before places)))
      ]
