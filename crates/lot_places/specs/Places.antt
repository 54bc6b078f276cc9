-- A bucket has a place for each of its keys, a pair of the key and its root where that is in.
use Rattle.std.specs.Prelude.{◌≡◌, ◌≢◌, ℕ, zero, suc, ◌+◌, ◌*◌, ◌<◌, ◌==◌, if◌then◌else◌, Bool, true, false, List, [], ◌∷◌, Option}
use Rattle.std.specs.Prelude.{Some, None, length, map, slice_index, slice_get, slice_set}
use Rattle.lot_places.specs.declared.keys.Keys.{Keys}
use Rattle.lot_places.specs.declared.keys.Keys.TheVariants.{Spaced, Listed}

module _ {R : Type 0} where
  -- a place for each key, with no root in it
  abbrev pub empty_places : List ℕ → List (ℕ × Option R)
  empty_places keys = map (λ k. (k, None)) keys

  -- whether the bucket has the key
  abbrev pub has_key : ℕ → List (ℕ × Option R) → Bool
  has_key k [] = false
  has_key k (p ∷ places) = if p.0 == k then true else has_key k places

  -- the root of the key, where it is in
  abbrev pub root_at : ℕ → List (ℕ × Option R) → Option R
  root_at k [] = None
  root_at k (p ∷ places) = if p.0 == k then p.1 else root_at k places

  -- the places with that root, or none, at the key
  abbrev pub with_root : ℕ → Option R → List (ℕ × Option R) → List (ℕ × Option R)
  with_root k root [] = []
  with_root k root (p ∷ places) = if p.0 == k then (p.0, root) ∷ places else p ∷ with_root k root places

module _ {R : Type 0} where
  -- no root of key k lies here
  abbrev pub AreWithout : ℕ → List (ℕ × Option R) → Type 0
  AreWithout k [] = Unit {0}
  AreWithout k (p ∷ places) = (p.0 ≡ k → p.1 ≡ None) × AreWithout k places

  -- a root lies at the first place of its key, and nowhere else
  abbrev pub LieFirst : List (ℕ × Option R) → Type 0
  LieFirst [] = Unit {0}
  LieFirst (p ∷ places) = AreWithout p.0 places × LieFirst places

  -- no root lies in these slots
  abbrev pub AreBare : List (Option R) → Type 0
  AreBare [] = Unit {0}
  AreBare (root ∷ slots) = (root ≡ None) × AreBare slots

-- so many keys: first, and then each is the one before and step
abbrev pub spaced : ℕ → ℕ → ℕ → List ℕ
spaced first step zero = []
spaced first step (suc n) = first ∷ spaced (first + step) step n

-- each key is the one before and step
abbrev pub AreEven : ℕ → ℕ → List ℕ → Type 0
AreEven first step keys = (i : ℕ) → i < length keys → slice_index keys i ≡ first + i * step

-- the keys of a row
abbrev pub keys_of : Keys → List ℕ
keys_of (Spaced first step count) = spaced first step count
keys_of (Listed keys) = keys.items

-- key k is none of them
abbrev pub IsMissing : ℕ → List ℕ → Type 0
IsMissing k keys = (i : ℕ) → i < length keys → slice_index keys i ≢ k

-- key k stands at i, and not before
pub record IsFirst (k : ℕ) (keys : List ℕ) (i : ℕ) : Type 0 where
  pub bound : i < length keys
  pub here : slice_index keys i ≡ k
  pub before : (j : ℕ) → j < i → slice_index keys j ≢ k

-- the place of key k is the one at i
pub record IsPlaceOf {R : Type 0} (k : ℕ) (places : List (ℕ × Option R)) (i : ℕ) : Type 0 where
  pub bound : i < length places
  pub has : has_key k places ≡ true
  pub holds : slice_get places i ≡ Some (k, root_at k places)
  pub changed : (root : Option R) → with_root k root places ≡ slice_set places i (k, root)
