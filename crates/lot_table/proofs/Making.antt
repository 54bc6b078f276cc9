-- How the buckets of a new table are made.
use Rattle.std.proofs.Common.{◌≡◌, ℕ, ◌+◌, ◌-◌, ◌*◌, ◌/◌, ◌<◌, ◌≤◌, ◌%◌, ◌&&◌, true, false, inl, inr, List, [], ◌∷◌, ◌++◌, length, get_or}
use Rattle.std.proofs.Common.{Option, None, refl, sym, ◌∙◌, ap, arith, length-append}
use Rattle.std.specs.Prelude.{nat_lt, ◌==◌}
use Rattle.std.proofs.lemmas.Bool.{lt-ltb, le-ltb}
use Rattle.std.proofs.lemmas.Bool.Decides.{eqb_tells, leb_tells}
use Rattle.std.specs.Int.{div_ceil}
use Rattle.std.proofs.lemmas.Grind.{div_ceil_times}
use Rattle.std.proofs.Math.ListN.{get_or-append}
use Rattle.std.proofs.Math.Seq.{get_or-append_seam}
use Rattle.std.proofs.lemmas.List.{length-map}
use Rattle.std.proofs.Math.Nat.{mul-le-mul_right, mod-add-div', add-mul-mod_self_right, mod-eq_of_lt}
use Rattle.lot_bucket.specs.Places.{empty_places, spaced, has_key}
use Rattle.lot_bucket.proofs.Slots.{length-spaced, even_spaced, even_place, even_without, rootless_empty}
use Rattle.lot_bucket.specs.Contents.{Contents}
use Rattle.lot_bucket.specs.KeyLine.{KeyLine}
use Rattle.lot_bucket.specs.Settled.{IsWhole}
use Rattle.lot_table.specs.Buckets.{IsFresh, AreFresh, IsFilled, AreElseAs, HaveNotBeenFair}

-- one more element at the end of a list, each of which has P of its number
pub each_more : {A : Type 0} (P : ℕ → A → Type 0) (n : ℕ) (xs ys : List A) (x : A) → ys ≡ xs ++ x ∷ [] → length xs ≡ n
    → ((i : ℕ) (d : A) → i < length xs → P i (get_or xs i d)) → P n x → (i : ℕ) (d : A) → i < length ys → P i (get_or ys i d)
each_more {A} P n xs ys x is len each here i d lt =
    rw is (elim (leb_tells n i) [
      | inl e ↦
          let at : i ≡ length xs = omega (arith, e.1, len, ap (λ (zs : List A). length zs) is, length-append xs (x ∷ [])) in
          rw at (rw (get_or-append_seam xs x [] d, len) here)
      | inr e ↦ let l : i < length xs = omega (arith, e.1, len) in rw (get_or-append xs (x ∷ []) d i l) (each i d l)
    ])

-- the last of a list of which each has P of its number, and those before it
pub each_last : {A : Type 0} (P : ℕ → A → Type 0) (n : ℕ) (xs ys : List A) (x : A) → ys ≡ xs ++ x ∷ [] → length xs ≡ n
    → ((i : ℕ) (d : A) → i < length ys → P i (get_or ys i d)) → P n x
each_last {A} P n xs ys x is len each =
    let lt : length xs < length ys = omega (arith, ap (λ (zs : List A). length zs) is, length-append xs (x ∷ [])) in
    let here : get_or ys (length xs) x ≡ x = rw is (get_or-append_seam xs x [] x) in
    rw (← len) (rw here at (each (length xs) x lt))

pub each_rest : {A : Type 0} (P : ℕ → A → Type 0) (xs ys : List A) (x : A) → ys ≡ xs ++ x ∷ []
    → ((i : ℕ) (d : A) → i < length ys → P i (get_or ys i d)) → (i : ℕ) (d : A) → i < length xs → P i (get_or xs i d)
each_rest {A} P xs ys x is each i d lt =
    let l : i < length ys = omega (arith, lt, ap (λ (zs : List A). length zs) is, length-append xs (x ∷ [])) in
    let here : get_or ys i d ≡ get_or xs i d = rw is (get_or-append xs (x ∷ []) d i lt) in
    rw here at (each i d l)

-- the keys of a bucket, counted
module _ (R : Type 0) (size number keys left count : ℕ) (lt : number < size) (from : left ≡ keys - number)
    (counted : count ≡ div_ceil left size) where
  abbrev pub places : List (ℕ × Option R)
  places = empty_places (spaced number size count)

  count_of : length places ≡ count
  count_of = length-map (spaced number size count) (λ (k : ℕ). (k, None)) ∙ length-spaced number size count

  bounds : (left ≤ count * size) × (count * size < left + size)
  bounds = rw counted (div_ceil_times left size (omega arith))

  last_below : (j : ℕ) → j < count → number + j * size < keys
  last_below j l =
      let more : (j + 1) * size ≤ count * size = mul-le-mul_right size (let h : j + 1 ≤ count = omega arith in h) in omega (arith, bounds.1)

  pub last_fits : (limit : ℕ) → number < limit → keys < limit → number + (count - 1) * size < limit
  last_fits limit few many =
      elim (leb_tells count 0) [
        | inl e ↦ let none : count - 1 ≡ 0 = omega (arith, e.1) in rw none (omega arith)
        | inr e ↦ omega (arith, last_below (count - 1) (omega (arith, e.1)))
      ]

  -- they are the keys that leave number
  laid_out : (k : ℕ) → has_key k places ≡ (k % size == number && nat_lt k keys)
  laid_out k =
      let even = even_spaced R number size count in
      elim (eqb_tells (k % size) number) [
        | inl e ↦
            elim (leb_tells keys k) [
              | inl f ↦
                  rw (e.0, le-ltb k keys f.1)
                  (even_without number size k places even (λ j l same. let below : number + j * size < keys =
                  last_below j (omega (arith, count_of, l)) in omega arith))
              | inr f ↦
                  let at : number + k / size * size ≡ k = ap (λ n. n + k / size * size) (sym e.1) ∙ mod-add-div' k size in
                  let here : k / size < count = within k (k / size) at f.1 in
                  rw (e.0, lt-ltb k keys f.1)
                  (even_place number size k (k / size) places (omega arith) even (omega (arith, count_of, here)) at).has
            ]
        | inr e ↦
            rw e.0
            (even_without number size k places even (λ j l same.
            e.1 (ap (λ n. n % size) (sym same) ∙ add-mul-mod_self_right number j size ∙ mod-eq_of_lt lt)))
      ]
    where
      within : (m j : ℕ) → number + j * size ≡ m → m < keys → j < count
      within m j is below =
          elim (leb_tells count j) [
            | inl e ↦ absurd (let more : count * size ≤ j * size = mul-le-mul_right size e.1 in omega (arith, bounds.0))
            | inr e ↦ e.1
          ]

  pub fresh_made : (threads : ℕ) (b : Contents R)
      → b ≡ record { room = threads; places = places; queue = []; opened = false; next_fair = 0 } → IsFresh size number keys threads b
  fresh_made threads b is =
      let same : b.places ≡ places = ap (λ (c : Contents R). c.places) is in
      record {
        closed = ap (λ (c : Contents R). c.opened) is;
        laid_out = λ k. rw same (laid_out k);
        rootless = λ k. rw same (rootless_empty R k (spaced number size count));
        empty = ap (λ (c : Contents R). c.queue) is;
        room = ap (λ (c : Contents R). c.room) is;
        next_fair = ap (λ (c : Contents R). c.next_fair) is;
      }

-- a filled bucket that was opened
pub opened_whole : {R : Type 0} (view : R → KeyLine) (size number keys : ℕ) (b c : Contents R) → IsFilled view size number keys b
    → c ≡ record b { opened = true } → IsWhole view size number keys c
opened_whole view size number keys b c filled is =
    rw is
    (record { is_open = refl; agrees = record { roots = filled.agrees.roots; pairs = filled.agrees.pairs }; laid_out = filled.laid_out })

-- new buckets that were filled have not been fair
pub newly_fair : {R : Type 0} (keys threads : ℕ) (fresh after : List (Contents R)) → AreFresh keys threads fresh
    → length after ≡ length fresh → AreElseAs fresh after → HaveNotBeenFair after
newly_fair keys threads fresh after new len alike i b lt =
    let at : i < length fresh = omega (arith, lt, len) in (alike i b at).next_fair ∙ (new i b at).next_fair
