-- Bytes that do not stand in a text: no line has an LF but its last, and no word a space.
use Rattle.std.proofs.Common.{◌≡◌, ◌≢◌, ◌<◌, ◌+◌, ◌/◌, ◌%◌, ◌++◌, ℕ, zero, suc, Bool, true, false, List, [], ◌∷◌, length, get_or, refl}
use Rattle.std.proofs.Common.{sym, ap}
use Rattle.std.proofs.Common.{◌∙◌, arith, inl, inr, append_assoc}
use Rattle.std.specs.Prelude.{◌==◌, ◌&&◌, not, codes, decimal, flat_map, map, nat_lt, ◌≤◌, ◌*◌}
use Rattle.std.specs.List.{AllByRecursion}
use Rattle.std.proofs.lemmas.Bool.{cases_lt, eqb-false, ne_eqb, ltb-true, and_parts, and_from, not_from_false}
use Rattle.std.proofs.lemmas.Fmt.{decimal_digit, length-decimal-le}
use Rattle.std.proofs.lemmas.List.{append_cancel_right, length-append}
use Rattle.lot_events.specs.declared.events.Event.{Event}
use Rattle.lot_events.specs.declared.events.Event.TheVariants as event
use Rattle.lot_events.specs.Spelling.{bit, field, IsSmall, IsLine, Spells}
use Rattle.lot_events.proofs.Figures.{decimal_2, decimal_3, decimal_4}

-- c stands nowhere in the text
abbrev pub clean : ℕ → List ℕ → Bool
clean c [] = true
clean c (b ∷ bs) = not (b == c) && clean c bs

pub clean_append : (c : ℕ) (xs ys : List ℕ) → clean c xs ≡ true → clean c ys ≡ true → clean c (xs ++ ys) ≡ true
clean_append c [] ys front back = back
clean_append c (x ∷ xs) ys front back =
    let parts = and_parts (not (x == c)) (clean c xs) front in
    and_from (not (x == c)) (clean c (xs ++ ys)) parts.0 (clean_append c xs ys parts.1 back)

pub not_is : (b : Bool) → not b ≡ true → b ≡ false
not_is true is = absurd (cc)
not_is false is = refl

pub clean_at : (c : ℕ) (xs : List ℕ) → clean c xs ≡ true → (i : ℕ) → i < length xs → get_or xs i 0 ≢ c
clean_at c [] is i within = absurd (omega arith)
clean_at c (x ∷ xs) is zero within = eqb-false x c (not_is (x == c) (and_parts (not (x == c)) (clean c xs) is).0)
clean_at c (x ∷ xs) is (suc i) within =
    clean_at c xs (and_parts (not (x == c)) (clean c xs) is).1 i (omega (arith, within))

-- digits are clean of what comes before them
pub clean_digits : (c : ℕ) (ks : List ℕ) → c < 48 → clean c (map (λ k. 48 + k) ks) ≡ true
clean_digits c [] low = refl
clean_digits c (k ∷ ks) low =
    and_from (not ((48 + k) == c)) (clean c (map (λ k. 48 + k) ks)) (not_from_false ((48 + k) == c) (ne_eqb (48 + k) c (λ e. omega arith)))
    (clean_digits c ks low)

pub clean_decimal : (c n : ℕ) → c < 48 → n < 10000 → clean c (decimal n) ≡ true
clean_decimal c n low small =
    elim (cases_lt n 10) [
      | inl one ↦ ap (clean c) (decimal_digit n one) ∙ clean_digits c (n ∷ []) low
      | inr over_one ↦ elim (cases_lt n 100) [
        | inl two ↦ ap (clean c) (decimal_2 n over_one two) ∙ clean_digits c (n / 10 ∷ n % 10 ∷ []) low
        | inr over_two ↦ elim (cases_lt n 1000) [
          | inl three ↦ ap (clean c) (decimal_3 n over_two three) ∙ clean_digits c (n / 10 / 10 ∷ n / 10 % 10 ∷ n % 10 ∷ []) low
          | inr over_three ↦ ap (clean c) (decimal_4 n over_three small)
              ∙ clean_digits c (n / 10 / 10 / 10 ∷ n / 10 / 10 % 10 ∷ n / 10 % 10 ∷ n % 10 ∷ []) low
        ]
      ]
    ]

pub clean_field : (n : ℕ) → n < 10000 → clean 10 (field n) ≡ true
clean_field n small = clean_decimal 10 n (omega arith) small

pub clean_fields : (ns : List ℕ) → AllByRecursion IsSmall ns → clean 10 (flat_map field ns) ≡ true
clean_fields [] small = refl
clean_fields (n ∷ ns) small = clean_append 10 (field n) (flat_map field ns) (clean_field n small.0) (clean_fields ns small.1)

-- a text ends the one line that it has
pub record IsOneLine (text : List ℕ) : Type 0 where
  pub front : List ℕ
  pub parts : text ≡ front ++ 10 ∷ []
  pub clean_is : clean 10 front ≡ true

pub line_is_one : (word ns text : List ℕ) → clean 10 word ≡ true → IsLine word ns text → IsOneLine text
line_is_one word ns text clean_word is = record {
  front = word ++ flat_map field ns;
  parts = is.text_is ∙ sym (append_assoc word (flat_map field ns) (10 ∷ []));
  clean_is = clean_append 10 word (flat_map field ns) clean_word (clean_fields ns is.small);
}

-- the line of an event: a word that has no LF and at most six letters, and at most four numbers
abbrev pub fits_event : List ℕ → List ℕ → Bool
fits_event word ns = clean 10 word && (nat_lt (length word) 7 && nat_lt (length ns) 5)

pub record IsEventLine (text : List ℕ) : Type 0 where
  pub word : List ℕ
  pub ns : List ℕ
  pub fits : fits_event word ns ≡ true
  pub is : IsLine word ns text

pub event_line_of : (word ns text : List ℕ) → fits_event word ns ≡ true → IsLine word ns text → IsEventLine text
event_line_of word ns text fits is = record { word = word; ns = ns; fits = fits; is = is }

pub event_line : (text : List ℕ) (e : Event) → Spells text e → IsEventLine text
event_line text (event.Try t x) is = event_line_of (codes "try") (t ∷ x ∷ []) text refl is
event_line text (event.Take t x) is = event_line_of (codes "take") (t ∷ x ∷ []) text refl is
event_line text (event.Mark t x) is = event_line_of (codes "mark") (t ∷ x ∷ []) text refl is
event_line text (event.Park t x) is = event_line_of (codes "park") (t ∷ x ∷ []) text refl is
event_line text (event.Free t x) is = event_line_of (codes "free") (t ∷ x ∷ []) text refl is
event_line text (event.Pass t x fair more) is = event_line_of (codes "pass") (t ∷ x ∷ bit fair ∷ bit more ∷ []) text refl is
event_line text (event.Enlist t x l) is = event_line_of (codes "enlist") (t ∷ x ∷ l ∷ []) text refl is
event_line text (event.Look t x) is = event_line_of (codes "look") (t ∷ x ∷ []) text refl is
event_line text (event.Call t x n more) (inl is) = event_line_of (codes "some") (t ∷ x ∷ n ∷ bit more ∷ []) text refl is
event_line text (event.Call t x n more) (inr (one, is)) = event_line_of (codes "call") (t ∷ x ∷ bit more ∷ []) text refl is
event_line text (event.Lower t x) is = event_line_of (codes "lower") (t ∷ x ∷ []) text refl is
event_line text (event.Sweep t x) is = event_line_of (codes "sweep") (t ∷ x ∷ []) text refl is
event_line text (event.SemTake t x) is = event_line_of (codes "stake") (t ∷ x ∷ []) text refl is
event_line text (event.SemMark t x) is = event_line_of (codes "smark") (t ∷ x ∷ []) text refl is
event_line text (event.SemPark t x) is = event_line_of (codes "spark") (t ∷ x ∷ []) text refl is
event_line text (event.SemFree t x) is = event_line_of (codes "sfree") (t ∷ x ∷ []) text refl is
event_line text (event.SemPass t x more) is = event_line_of (codes "spass") (t ∷ x ∷ bit more ∷ []) text refl is
event_line text (event.SemClear t x) is = event_line_of (codes "sclear") (t ∷ x ∷ []) text refl is

-- so it ends the one line that it has
pub event_is_one : (text : List ℕ) (e : Event) → Spells text e → IsOneLine text
event_is_one text e spells =
    let line = event_line text e spells in
    line_is_one line.word line.ns text
    (and_parts (clean 10 line.word) (nat_lt (length line.word) 7 && nat_lt (length line.ns) 5) line.fits).0 line.is

-- and is short
pub field_short : (n : ℕ) → n < 10000 → length (field n) ≤ 5
field_short n small = let short = length-decimal-le 4 n (omega arith) small (omega arith) in omega (arith, short)

pub fields_short : (ns : List ℕ) → AllByRecursion IsSmall ns → length (flat_map field ns) ≤ 5 * length ns
fields_short [] small = omega arith
fields_short (n ∷ ns) small =
    let one = field_short n small.0 in
    let others = fields_short ns small.1 in
    omega (arith, one, others, length-append (field n) (flat_map field ns))

pub event_short : (text : List ℕ) (e : Event) → Spells text e → length text ≤ 27
event_short text e spells =
    let line = event_line text e spells in
    let sizes = and_parts (nat_lt (length line.word) 7) (nat_lt (length line.ns) 5)
    (and_parts (clean 10 line.word) (nat_lt (length line.word) 7 && nat_lt (length line.ns) 5) line.fits).1 in
    let word = ltb-true (length line.word) 7 sizes.0 in
    let few = ltb-true (length line.ns) 5 sizes.1 in
    let numbers = fields_short line.ns line.is.small in
    omega (
      arith,
      word,
      few,
      numbers,
      ap length line.is.text_is,
      length-append line.word (flat_map field line.ns ++ 10 ∷ []),
      length-append (flat_map field line.ns) (10 ∷ []),
    )

-- the line of an event, without its end
pub clean_front : (front : List ℕ) (e : Event) → Spells (front ++ 10 ∷ []) e → clean 10 front ≡ true
clean_front front e spells =
    let one = event_is_one (front ++ 10 ∷ []) e spells in
    ap (clean 10) (append_cancel_right front one.front (10 ∷ []) one.parts) ∙ one.clean_is
