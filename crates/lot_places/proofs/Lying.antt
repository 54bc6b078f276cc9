-- The pairs that lie at the places in use: what is read at one, and what is written at another.
use Rattle.std.proofs.Common.{◌≡◌, ℕ, suc, ◌<◌, List, [], ◌∷◌, ◌++◌, length, get_or, set, take, drop, remove, refl, sym, ◌∙◌, ap, arith}
use Rattle.std.proofs.Common.{get_or-set_same, get_or-set_other}
use Rattle.std.proofs.lemmas.List.{length-map, map-append, take-map, drop-map, get_or-map, get_or_default}
use Rattle.lot_places.specs.Links.{times}
use Rattle.lot_places.specs.Waiting.{lying_at}
use Rattle.lot_places.specs.declared.queue.Queue.TheInside.{Inside}
use Rattle.lot_places.proofs.Ways.{not_first, not_in_rest}

module _ (fields : Inside) (queue : List (ℕ × ℕ)) (lying : lying_at fields.pairs.items fields.links.used ≡ queue) where
  pub length_is : length queue ≡ length fields.links.used
  length_is = rw (← lying) (length-map fields.links.used (λ p. get_or fields.pairs.items p (0, 0)))

  pub reads : (i : ℕ) {p : ℕ} {pair : ℕ × ℕ} → length fields.pairs.items ≡ fields.links.room → i < length fields.links.used
      → p ≡ get_or fields.links.used i 0 → p < fields.links.room
      → pair ≡ get_or fields.pairs.items p pair → (d : ℕ × ℕ) → get_or queue i d ≡ pair
  reads i {p} {pair} same lt place within read d =
      rw (← lying)
      (get_or-map (λ p. get_or fields.pairs.items p (0, 0)) fields.links.used i 0 d lt
      ∙ rw (← place) (get_or_default fields.pairs.items p (0, 0) pair (omega arith) ∙ sym read))

-- a pair written at a place that is not in use
lying_at-set : (pairs : List (ℕ × ℕ)) (p : ℕ) (pair : ℕ × ℕ) (places : List ℕ) → times p places ≡ 0
    → lying_at (set pairs p pair) places ≡ lying_at pairs places
lying_at-set pairs p pair [] none = refl
lying_at-set pairs p pair (q ∷ places) none =
    rw (get_or-set_other pairs p q pair (0, 0) (not_first p q places none))
    (ap (λ xs. get_or pairs q (0, 0) ∷ xs) (lying_at-set pairs p pair places (not_in_rest p q places none)))

-- a pair written at a place that is taken into use, as the last
pub lying_at-push : (pairs : List (ℕ × ℕ)) (p : ℕ) (pair : ℕ × ℕ) (places : List ℕ) → p < length pairs → times p places ≡ 0
    → lying_at (set pairs p pair) (places ++ p ∷ []) ≡ lying_at pairs places ++ pair ∷ []
lying_at-push pairs p pair places lt none =
    map-append (λ q. get_or (set pairs p pair) q (0, 0)) places (p ∷ [])
    ∙ rw (lying_at-set pairs p pair places none, get_or-set_same pairs p pair (0, 0) lt) refl

pub lying_at-remove : (pairs : List (ℕ × ℕ)) (places : List ℕ) (i : ℕ) → lying_at pairs (remove places i) ≡ remove (lying_at pairs places) i
lying_at-remove pairs places i =
    let f : ℕ → ℕ × ℕ = λ p. get_or pairs p (0, 0) in
    map-append f (take i places) (drop (suc i) places) ∙ rw (take-map f i places, drop-map f (suc i) places) refl
