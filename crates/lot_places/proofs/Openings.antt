-- The links of a row whose places are all free.
use Rattle.std.proofs.Common.{◌≡◌, ℕ, zero, suc, ◌+◌, ◌-◌, ◌<◌, cond, ltb, eqb, List, [], ◌∷◌, ◌++◌, length, get_or, refl, sym, ◌∙◌, ap}
use Rattle.std.proofs.Common.{arith, add-zero, zero-add, length-append}
use Rattle.std.proofs.lemmas.Bool.{le-ltb, cond-false}
use Rattle.std.proofs.lemmas.List.{map-id, get_or_append_left}
use Rattle.std.proofs.lemmas.List.FromFn.{length-range_with_len, get_or-range_with_len, map-range_with_len_more}
use Rattle.std.proofs.lemmas.Bool.Decides.{nat_tests}
use Rattle.std.specs.List.{range_with_len}
use Rattle.lot_places.specs.Links.{times, way_from, IsLinked}

pub range_with_len-push : (a n b : ℕ) → a + n ≡ b → range_with_len a n ++ b ∷ [] ≡ range_with_len a (n + 1)
range_with_len-push a n b e =
    ap (λ xs. xs ++ b ∷ []) (sym (map-id (range_with_len a n))) ∙ sym (map-range_with_len_more (λ (x : ℕ). x) a n b e)
    ∙ map-id (range_with_len a (n + 1))

step : (p a : ℕ) → cond (eqb a p) 1 0 + cond (ltb p a) 1 0 ≡ cond (ltb p (a + 1)) 1 0
step p a = grind (arith, nat_tests)

times-range_with_len : (p a n : ℕ) → times p (range_with_len a n) + cond (ltb p a) 1 0 ≡ cond (ltb p (a + n)) 1 0
times-range_with_len p a zero = rw add-zero (omega arith)
times-range_with_len p a (suc n) =
    let same : a + suc n ≡ a + 1 + n = omega arith in
    rw same (omega (arith, times-range_with_len p (a + 1) n, step p a))

way_from-range : (next : List ℕ) (a n : ℕ) → ((i : ℕ) → i < a + n → get_or next i 0 ≡ i + 1) → way_from next n a ≡ range_with_len a n
way_from-range next a zero each = refl
way_from-range next a (suc n) each =
    rw (each a (omega arith)) (ap (λ xs. a ∷ xs) (way_from-range next (a + 1) n (λ i lt. each i (omega arith))))

module _ (next : List ℕ) (room : ℕ) (made : next ≡ range_with_len 1 room ++ room ∷ []) where
  pub all_free : way_from next (room - 0) 0 ≡ range_with_len 0 room
  all_free =
      let each : (i : ℕ) → i < 0 + room → get_or next i 0 ≡ i + 1 = λ i lt.
      rw made (get_or_append_left (range_with_len 1 room) (room ∷ []) 0 i (omega (arith, length-range_with_len 1 room))
      ∙ get_or-range_with_len 1 room i 0 (omega arith) ∙ omega arith) in
      let same : room - 0 ≡ room = omega arith in
      rw same (way_from-range next 0 room each)

  pub opening : IsLinked next room 0 room 0
  opening =
      record {
        size = omega (arith, ap length made, length-append (range_with_len 1 room) (room ∷ []), length-range_with_len 1 room);
        fits = omega arith;
        complete = λ p.
            let counted = rw zero-add at (times-range_with_len p 0 room) in
            rw all_free (omega (arith, counted, cond-false {A = ℕ} (ltb p 0) 1 0 (le-ltb p 0 (omega arith))));
        ends = refl;
      }
