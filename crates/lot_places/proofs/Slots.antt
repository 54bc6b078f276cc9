-- Where the place of a key is.
use Rattle.std.proofs.Common.{◌≡◌, ◌≢◌, ℕ, zero, suc, ◌+◌, ◌*◌, ◌<◌, ◌≤◌, true, false, List, [], ◌∷◌, length, map, get_or, set, replicate}
use Rattle.std.proofs.Common.{◌++◌, inl, inr, MatchOption, Option, Some, None, refl, sym, ◌∙◌, ap, arith, eq-eqb}
use Rattle.std.proofs.lemmas.Bool.{ne_eqb}
use Rattle.std.proofs.lemmas.List.{get_or-map, length-map, length-set, length-replicate, get_or_default}
use Rattle.std.proofs.lemmas.Slice.Zip.{get_or-zip, length-zip}
use Rattle.std.proofs.Math.Nat.{mul-le-mul_right}
use Rattle.std.proofs.lemmas.Option.{get_or_from_slice_get}
use Rattle.std.proofs.lemmas.Bool.Decides.{eqb_tells}
use Rattle.std.specs.List.{zip}
use Rattle.lot_places.specs.Places.{empty_places, spaced, has_key, root_at, with_root, AreEven, AreWithout, LieFirst, AreBare, IsPlaceOf}
use Rattle.lot_places.specs.Places.{IsFirst, IsMissing}
use Rattle.lot_places.proofs.Spacing.{even_keys}
pub use Rattle.lot_places.proofs.Spacing.{length-spaced}

module _ {R : Type 0} where
  -- the places before i are of other keys, and the one at i is of key k
  pub first_place : (k : ℕ) (places : List (ℕ × Option R)) (i : ℕ) → i < length places
      → ((j : ℕ) (d : ℕ × Option R) → j < i → (get_or places j d).0 ≢ k)
      → ((d : ℕ × Option R) → (get_or places i d).0 ≡ k) → IsPlaceOf k places i
  first_place k [] i bound before here = absurd (omega arith)
  first_place k (p ∷ places) zero bound before here =
      let same = eq-eqb p.0 k (here p) in
      record {
        bound = bound;
        has = rw same refl;
        holds = rw same (ap (λ (n : ℕ). Some (n, p.1)) (here p));
        changed = λ root. rw same (ap (λ (n : ℕ). (n, root) ∷ places) (here p));
      }
  first_place k (p ∷ places) (suc i) bound before here =
      let other = ne_eqb p.0 k (before 0 p (omega arith)) in
      let later = first_place k places i (omega arith) (λ j d lt. before (suc j) d (omega arith)) here in
      record {
        bound = bound;
        has = rw other later.has;
        holds = rw other later.holds;
        changed = λ root. rw other (ap (λ ps. p ∷ ps) (later.changed root));
      }

  -- no place is of key k
  pub no_place : (k : ℕ) (places : List (ℕ × Option R)) → ((j : ℕ) (d : ℕ × Option R) → j < length places → (get_or places j d).0 ≢ k)
      → has_key k places ≡ false
  no_place k [] none = refl
  no_place k (p ∷ places) none =
      rw (ne_eqb p.0 k (none 0 p (omega arith))) (no_place k places (λ j d lt. none (suc j) d (omega arith)))

  -- with evenly spaced keys, the key at i
  pub key_at : (first step : ℕ) (places : List (ℕ × Option R)) → AreEven first step (map (λ (p : ℕ × Option R). p.0) places)
      → (i : ℕ) (d : ℕ × Option R) → i < length places → (get_or places i d).0 ≡ first + i * step
  key_at first step places even i d lt =
      sym (get_or-map (λ (p : ℕ × Option R). p.0) places i d 0 lt) ∙ even i (rw (length-map places (λ (p : ℕ × Option R). p.0)) lt)

  -- with evenly spaced keys, the place of the i-th
  pub even_place : (first step k i : ℕ) (places : List (ℕ × Option R)) → 0 < step
      → AreEven first step (map (λ (p : ℕ × Option R). p.0) places)
      → i < length places → first + i * step ≡ k → IsPlaceOf k places i
  even_place first step k i places rises even lt here =
      first_place k places i lt
      (λ j d before e.
      let at : (get_or places j d).0 ≡ first + j * step = key_at first step places even j d (omega arith) in
      let more : (j + 1) * step ≤ i * step = mul-le-mul_right step (let h : j + 1 ≤ i = omega arith in h) in
      omega arith)
      (λ d. key_at first step places even i d lt ∙ here)

  -- with evenly spaced keys, none of which is k
  pub even_without : (first step k : ℕ) (places : List (ℕ × Option R)) → AreEven first step (map (λ (p : ℕ × Option R). p.0) places)
      → ((j : ℕ) → j < length places → first + j * step ≢ k) → has_key k places ≡ false
  even_without first step k places even none =
      no_place k places (λ j d lt e. none j lt (sym (key_at first step places even j d lt) ∙ e))

  -- a key and the root beside it
  beside : (keys : List ℕ) (slots : List (Option R)) (i : ℕ) (d : ℕ × Option R) → length slots ≡ length keys → i < length keys
      → get_or (zip keys slots) i d ≡ (get_or keys i d.0, get_or slots i d.1)
  beside keys slots i d all lt = get_or-zip keys slots i d lt (omega (arith, all))

  key_beside : (keys : List ℕ) (slots : List (Option R)) (i : ℕ) (d : ℕ × Option R) → length slots ≡ length keys → i < length keys
      → (get_or (zip keys slots) i d).0 ≡ get_or keys i 0
  key_beside keys slots i d all lt =
      ap (λ (p : ℕ × Option R). p.0) (beside keys slots i d all lt) ∙ get_or_default keys i d.0 0 lt

  places_of_keys : (keys : List ℕ) (slots : List (Option R)) → length slots ≡ length keys → length (zip keys slots) ≡ length keys
  places_of_keys keys slots all = length-zip keys slots ∙ omega (arith, all)

  -- what is found among the keys is the place of the key
  pub found_place : (key : ℕ) (keys : List ℕ) (slots : List (Option R)) (found : Option ℕ) → length slots ≡ length keys
      → MatchOption found (IsMissing key keys) (IsFirst key keys)
      → MatchOption found (has_key key (zip keys slots) ≡ false) (IsPlaceOf key (zip keys slots))
  found_place key keys slots None all missing =
      no_place key (zip keys slots)
      (λ j d lt e.
      let within : j < length keys = rw (places_of_keys keys slots all) at lt in
      missing j within (sym (key_beside keys slots j d all within) ∙ e))
  found_place key keys slots (Some i) all at =
      first_place key (zip keys slots) i (rw (places_of_keys keys slots all) at.bound)
      (λ j d less e.
      at.before j less (sym (key_beside keys slots j d all (let within : j < length keys = omega (arith, at.bound) in within)) ∙ e))
      (λ d. key_beside keys slots i d all at.bound ∙ at.here)

  -- another root in a slot
  zip-set : (keys : List ℕ) (slots : List (Option R)) (i d : ℕ) (root : Option R) → length slots ≡ length keys
      → zip keys (set slots i root) ≡ set (zip keys slots) i (get_or keys i d, root)
  zip-set [] [] i d root all = refl
  zip-set [] (s ∷ slots) i d root all = absurd (omega (arith, all))
  zip-set (k ∷ keys) [] i d root all = absurd (omega (arith, all))
  zip-set (k ∷ keys) (s ∷ slots) zero d root all = refl
  zip-set (k ∷ keys) (s ∷ slots) (suc i) d root all = ap (λ ps. (k, s) ∷ ps) (zip-set keys slots i d root (omega (arith, all)))

  -- a key that the bucket has not has no root
  pub rootless : (k : ℕ) (places : List (ℕ × Option R)) → has_key k places ≡ false → root_at k places ≡ None
  rootless k [] none = refl
  rootless k (p ∷ places) none =
      elim (eqb_tells p.0 k) [
        | inl e ↦ absurd (let f : true ≡ false = rw e.0 at none in cc)
        | inr e ↦ rw e.0 (rootless k places (rw e.0 at none))
      ]

-- where the roots lie
module _ {R : Type 0} where
  without_with : (j k : ℕ) (root : Option R) (places : List (ℕ × Option R)) → k ≢ j → AreWithout j places
      → AreWithout j (with_root k root places)
  without_with j k root [] other none = tt
  without_with j k root (p ∷ places) other none =
      elim (eqb_tells p.0 k) [
        | inl e ↦ rw e.0 ((λ same. absurd (other (sym e.1 ∙ same))), none.1)
        | inr e ↦ rw e.0 (none.0, without_with j k root places other none.1)
      ]

  lies_first_with : (k : ℕ) (root : Option R) (places : List (ℕ × Option R)) → LieFirst places → LieFirst (with_root k root places)
  lies_first_with k root [] lie = tt
  lies_first_with k root (p ∷ places) lie =
      elim (eqb_tells p.0 k) [
        | inl e ↦ rw e.0 lie
        | inr e ↦ rw e.0 (without_with p.0 k root places (λ same. e.1 (sym same)) lie.0, lies_first_with k root places lie.1)
      ]

  -- where no key has a root, and roots lie first, none lies here
  rest_rootless : (p : ℕ × Option R) (places : List (ℕ × Option R)) → AreWithout p.0 places → ((k : ℕ) → root_at k (p ∷ places) ≡ None)
      → (k : ℕ) → root_at k places ≡ None
  rest_rootless p places none each k =
      elim (eqb_tells p.0 k) [
        | inl e ↦ rw (← e.1) (without_root p.0 places none)
        | inr e ↦ rw e.0 at (each k)
      ]
    where
      without_root : (j : ℕ) (ps : List (ℕ × Option R)) → AreWithout j ps → root_at j ps ≡ None
      without_root j [] none = refl
      without_root j (q ∷ ps) none = elim (eqb_tells q.0 j) [ inl e ↦ rw e.0 (none.0 e.1) | inr e ↦ rw e.0 (without_root j ps none.1) ]

  pub bare : (keys : List ℕ) (slots : List (Option R)) → length slots ≡ length keys → LieFirst (zip keys slots)
      → ((k : ℕ) → root_at k (zip keys slots) ≡ None) → AreBare slots
  bare keys [] all lie none = tt
  bare [] (s ∷ slots) all lie none = absurd (omega (arith, all))
  bare (k ∷ keys) (s ∷ slots) all lie none =
      (rw (eq-eqb k k refl) at (none k), bare keys slots (omega (arith, all)) lie.1 (rest_rootless (k, s) (zip keys slots) lie.0 none))

  -- the last slot, and those before it
  pub bare_last : (before : List (Option R)) (root : Option R) → AreBare (before ++ root ∷ [])
      → AreBare before × (root ≡ None)
  bare_last [] root all = (tt, all.0)
  bare_last (r ∷ before) root all = let rest = bare_last before root all.1 in ((all.0, rest.0), rest.1)

-- where slots beside keys are seen as places, the slot at the place of k
module _ {R : Type 0} (k i : ℕ) (keys : List ℕ) (slots : List (Option R)) (shown : List (ℕ × Option R)) (same : zip keys slots ≡ shown)
    (all : length slots ≡ length keys) (at : IsPlaceOf k shown i) where
  key_within : i < length keys
  key_within = rw (← same, places_of_keys keys slots all) at at.bound

  held : (d : ℕ × Option R) → get_or (zip keys slots) i d ≡ (k, root_at k shown)
  held d = ap (λ ps. get_or ps i d) same ∙ get_or_from_slice_get shown i (k, root_at k shown) d at.holds

  key_held : (d : ℕ × Option R) → get_or keys i d.0 ≡ k
  key_held d = ap (λ (p : ℕ × Option R). p.0) (sym (beside keys slots i d all key_within) ∙ held d)

  pub slot_within : i < length slots
  slot_within = omega (arith, key_within, all)

  -- has the root of k
  pub slot_read : (slot : Option R) → slot ≡ get_or slots i slot → slot ≡ root_at k shown
  slot_read slot is = is ∙ ap (λ (p : ℕ × Option R). p.1) (sym (beside keys slots i (k, slot) all key_within) ∙ held (k, slot))

  -- is seen with another root
  pub slot_stored : (root : Option R) → zip keys (set slots i root) ≡ with_root k root shown
  slot_stored root =
      zip-set keys slots i k root all ∙ ap (λ (n : ℕ). set (zip keys slots) i (n, root)) (key_held (k, None))
      ∙ ap (λ ps. set ps i (k, root)) same ∙ sym (at.changed root)

  -- leaves a slot for each key, and the roots at the first places of theirs
  pub slot_kept : (root : Option R) → LieFirst (zip keys slots)
      → (length (set slots i root) ≡ length keys) × LieFirst (zip keys (set slots i root))
  slot_kept root lie = (length-set slots i root ∙ all, rw (slot_stored root) (lies_first_with k root shown (rw same at lie)))

without_empty : (R : Type 0) (j : ℕ) (keys : List ℕ) → AreWithout {R = R} j (empty_places keys)
without_empty R j [] = tt
without_empty R j (k ∷ keys) = ((λ _. refl), without_empty R j keys)

first_empty : (R : Type 0) (keys : List ℕ) → LieFirst {R = R} (empty_places keys)
first_empty R [] = tt
first_empty R (k ∷ keys) = (without_empty R k keys, first_empty R keys)

-- empty slots beside keys are new places
zip-empty : (R : Type 0) (keys : List ℕ) (n : ℕ) → length keys ≡ n → zip keys (replicate n None) ≡ empty_places {R = R} keys
zip-empty R [] n is = refl
zip-empty R (k ∷ keys) zero is = absurd (omega (arith, is))
zip-empty R (k ∷ keys) (suc n) is = ap (λ ps. (k, None) ∷ ps) (zip-empty R keys n (omega (arith, is)))

-- so many empty slots
pub record AreNew {R : Type 0} (keys : List ℕ) (slots : List (Option R)) : Type 0 where
  pub all : length slots ≡ length keys
  pub seen : zip keys slots ≡ empty_places keys
  pub first : LieFirst (zip keys slots)

pub new_slots : (R : Type 0) (keys : List ℕ) (slots : List (Option R)) (n : ℕ) → slots ≡ replicate n None → n ≡ length keys
    → AreNew keys slots
new_slots R keys slots n made count =
    let seen : zip keys slots ≡ empty_places keys = rw made (zip-empty R keys n (sym count)) in
    record {
      all = ap (λ (s : List (Option R)). length s) made ∙ length-replicate n None ∙ count;
      seen = seen;
      first = rw seen (first_empty R keys);
    }

-- new places have no root
pub rootless_empty : (R : Type 0) (k : ℕ) (keys : List ℕ) → root_at k (empty_places {R = R} keys) ≡ None
rootless_empty R k [] = refl
rootless_empty R k (x ∷ keys) = elim (eqb_tells x k) [ inl e ↦ rw e.0 refl | inr e ↦ rw e.0 (rootless_empty R k keys) ]

-- new places have the keys that they are made for
keys_of_empty : (R : Type 0) (keys : List ℕ) → map (λ (p : ℕ × Option R). p.0) (empty_places {R = R} keys) ≡ keys
keys_of_empty R [] = refl
keys_of_empty R (k ∷ keys) = ap (λ ks. k ∷ ks) (keys_of_empty R keys)

pub even_spaced : (R : Type 0) (first step n : ℕ)
    → AreEven first step (map (λ (p : ℕ × Option R). p.0) (empty_places (spaced first step n)))
even_spaced R first step n = rw (keys_of_empty R (spaced first step n)) (even_keys first step n)
