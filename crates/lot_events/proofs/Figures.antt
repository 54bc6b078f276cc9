-- Numbers of one to four digits, read and spelled.
use Rattle.std.proofs.Common.{zero, suc, ◌≡◌, ◌≢◌, ◌<◌, ◌≤◌, ◌+◌, ◌-◌, ◌*◌, ◌/◌, ◌%◌, ◌++◌, ℕ, Bool, true, false, List, [], ◌∷◌, Option}
use Rattle.std.proofs.Common.{Some, None, refl, sym, ap, ◌∙◌, subst, arith}
use Rattle.std.proofs.Common.{append_assoc, inl, inr, leb}
use Rattle.std.specs.Prelude.{◌==◌, nat_lt, if◌then◌else◌, decimal}
use Rattle.std.specs.Option.{option_and_then}
use Rattle.std.specs.Char.{is_ascii_digit}
use Rattle.std.proofs.lemmas.Bool.{cases_lt, eqb-true, eqb-false, ne_eqb, leb-true, and_parts, and_from, le-leb, ltb-true}
use Rattle.std.proofs.lemmas.Fmt.{decimal_digit, decimal_step}
use Rattle.lot_events.specs.Spelling.{bit, field}
use Rattle.lot_events.specs.Reading.{one_more, three_more, number_at, field_at, flag_at, end_at}
use Rattle.lot_events.proofs.Cases.{by_bit}

pub bind_is : {A B : Type 0} (f : A → Option B) (o : Option A) (x : A) (y : Option B) → o ≡ Some x → f x ≡ y → option_and_then f o ≡ y
bind_is f o x y is next = ap (option_and_then f) is ∙ next

pub bind_some : {A B : Type 0} (f : A → Option B) (o : Option A) (y : B) → option_and_then f o ≡ Some y → (x : A)
    × (o ≡ Some x) × (f x ≡ Some y)
bind_some f None y is = absurd (cc)
bind_some f (Some x) y is = (x, refl, is)

pub some_is : {A : Type 0} (x y : A) → Some x ≡ Some y → x ≡ y
some_is x y is = cc

-- what is told of a digit
pub digit_is : (d : ℕ) → is_ascii_digit d ≡ true → (48 ≤ d) × (d ≤ 57)
digit_is d is = let parts = and_parts (leb 48 d) (leb d 57) is in (leb-true 48 d parts.0, leb-true d 57 parts.1)

pub is_digit : (k : ℕ) → k < 10 → is_ascii_digit (48 + k) ≡ true
is_digit k small = and_from (leb 48 (48 + k)) (leb (48 + k) 57) (le-leb 48 (48 + k) (omega arith)) (le-leb (48 + k) 57 (omega arith))

-- no digit stands at the front
abbrev pub Ends : List ℕ → Type 0
Ends [] = Unit {0}
Ends (d ∷ rest) = is_ascii_digit d ≡ false

pub more_digit : (n k : ℕ) (rest : List ℕ) → k < 10 → one_more n ((48 + k) ∷ rest) ≡ (10 * n + k, rest)
unfolding one_more
more_digit n k rest small =
    ap (λ b. if b then (10 * n + ((48 + k) - 48), rest) else (n, (48 + k) ∷ rest)) (is_digit k small)
    ∙ ap (λ j. (10 * n + j, rest)) (omega arith)

pub more_end : (n : ℕ) (rest : List ℕ) → Ends rest → one_more n rest ≡ (n, rest)
unfolding one_more
more_end n [] ends = refl
more_end n (d ∷ rest) ends = ap (λ b. if b then (10 * n + (d - 48), rest) else (n, d ∷ rest)) ends

pub three_0 : (a : ℕ) (rest : List ℕ) → Ends rest → three_more a rest ≡ (a, rest)
unfolding three_more
three_0 a rest ends = rw (more_end a rest ends, more_end a rest ends, more_end a rest ends) refl

pub three_1 : (a k : ℕ) (rest : List ℕ) → k < 10 → Ends rest → three_more a ((48 + k) ∷ rest) ≡ (10 * a + k, rest)
unfolding three_more
three_1 a k rest small ends = rw (more_digit a k rest small, more_end (10 * a + k) rest ends, more_end (10 * a + k) rest ends) refl

pub three_2 : (a j k : ℕ) (rest : List ℕ) → j < 10 → k < 10 → Ends rest →
    three_more a ((48 + j) ∷ (48 + k) ∷ rest) ≡ (10 * (10 * a + j) + k, rest)
unfolding three_more
three_2 a j k rest small_j small ends =
    rw (more_digit a j ((48 + k) ∷ rest) small_j, more_digit (10 * a + j) k rest small, more_end (10 * (10 * a + j) + k) rest ends) refl

pub three_3 : (a i j k : ℕ) (rest : List ℕ) → i < 10 → j < 10 → k < 10 →
    three_more a ((48 + i) ∷ (48 + j) ∷ (48 + k) ∷ rest) ≡ (10 * (10 * (10 * a + i) + j) + k, rest)
unfolding three_more
three_3 a i j k rest small_i small_j small =
    rw (
      more_digit a i ((48 + j) ∷ (48 + k) ∷ rest) small_i,
      more_digit (10 * a + i) j ((48 + k) ∷ rest) small_j,
      more_digit (10 * (10 * a + i) + j) k rest small,
    ) refl

-- the digits
pub decimal_2 : (n : ℕ) → 10 ≤ n → n < 100 → decimal n ≡ (48 + n / 10) ∷ (48 + n % 10) ∷ []
decimal_2 n from small =
    decimal_step n from (omega arith) ∙ ap (λ ds. ds ++ (48 + n % 10) ∷ []) (decimal_digit (n / 10) (omega arith))

pub decimal_3 : (n : ℕ) → 100 ≤ n → n < 1000 → decimal n ≡ (48 + n / 10 / 10) ∷ (48 + n / 10 % 10) ∷ (48 + n % 10) ∷ []
decimal_3 n from small =
    decimal_step n (omega arith) (omega arith) ∙ ap (λ ds. ds ++ (48 + n % 10) ∷ []) (decimal_2 (n / 10) (omega arith) (omega arith))

pub decimal_4 : (n : ℕ) → 1000 ≤ n → n < 10000 →
    decimal n ≡ (48 + n / 10 / 10 / 10) ∷ (48 + n / 10 / 10 % 10) ∷ (48 + n / 10 % 10) ∷ (48 + n % 10) ∷ []
decimal_4 n from small =
    decimal_step n (omega arith) (omega arith) ∙ ap (λ ds. ds ++ (48 + n % 10) ∷ []) (decimal_3 (n / 10) (omega arith) (omega arith))

pub number_from : (a : ℕ) (text : List ℕ) → 0 < a → a < 10 → number_at ((48 + a) ∷ text) ≡ Some (three_more a text)
unfolding number_at
number_from a text some small =
    ap (λ b. if b then Some (0, text) else (if is_ascii_digit (48 + a) then Some (three_more ((48 + a) - 48) text) else None))
    (ne_eqb (48 + a) 48 (λ e. omega arith))
    ∙ ap (λ b. if b then Some (three_more ((48 + a) - 48) text) else None) (is_digit a small)
    ∙ ap (λ n. Some (three_more n text)) (omega arith)

pub again_0 : (n : ℕ) (rest : List ℕ) → n ≡ 0 → number_at (decimal n ++ rest) ≡ Some (n, rest)
unfolding number_at
again_0 n rest is =
    subst (λ m. number_at (decimal m ++ rest) ≡ Some (m, rest)) (sym is)
    (ap (λ ds. number_at (ds ++ rest)) (decimal_digit 0 (omega arith)))

pub again_3 : (n : ℕ) (rest : List ℕ) → 100 ≤ n → n < 1000 → Ends rest → number_at (decimal n ++ rest) ≡ Some (n, rest)
again_3 n rest from small ends =
    ap (λ ds. number_at (ds ++ rest)) (decimal_3 n from small)
    ∙ number_from (n / 10 / 10) ((48 + n / 10 % 10) ∷ (48 + n % 10) ∷ rest) (omega arith) (omega arith)
    ∙ ap Some (three_2 (n / 10 / 10) (n / 10 % 10) (n % 10) rest (omega arith) (omega arith) ends ∙ ap (λ m. (m, rest)) (omega arith))

pub again_4 : (n : ℕ) (rest : List ℕ) → 1000 ≤ n → n < 10000 → number_at (decimal n ++ rest) ≡ Some (n, rest)
again_4 n rest from small =
    ap (λ ds. number_at (ds ++ rest)) (decimal_4 n from small)
    ∙ number_from (n / 10 / 10 / 10) ((48 + n / 10 / 10 % 10) ∷ (48 + n / 10 % 10) ∷ (48 + n % 10) ∷ rest) (omega arith) (omega arith)
    ∙ ap Some (three_3 (n / 10 / 10 / 10) (n / 10 / 10 % 10) (n / 10 % 10) (n % 10) rest (omega arith) (omega arith) (omega arith)
    ∙ ap (λ m. (m, rest)) (omega arith))

pub number_again : (n : ℕ) (rest : List ℕ) → n < 10000 → Ends rest → number_at (decimal n ++ rest) ≡ Some (n, rest)
number_again n rest small ends =
    elim (cases_lt n 1) [
      | inl none ↦ again_0 n rest (omega arith)
      | inr some ↦ elim (cases_lt n 10) [
        | inl one ↦ ap (λ ds. number_at (ds ++ rest)) (decimal_digit n one) ∙ number_from n rest some one ∙ ap Some (three_0 n rest ends)
        | inr over_one ↦ elim (cases_lt n 100) [
          | inl two ↦ ap (λ ds. number_at (ds ++ rest)) (decimal_2 n over_one two)
              ∙ number_from (n / 10) ((48 + n % 10) ∷ rest) (omega arith) (omega arith)
              ∙ ap Some (three_1 (n / 10) (n % 10) rest (omega arith) ends ∙ ap (λ m. (m, rest)) (omega arith))
          | inr over_two ↦ elim (cases_lt n 1000) [
            | inl three ↦ again_3 n rest over_two three ends
            | inr over_three ↦ again_4 n rest over_three small
          ]
        ]
      ]
    ]

-- what was read so far is a number of so many digits, and the rest
pub record IsRead (text : List ℕ) (bound : ℕ) (x : ℕ × List ℕ) : Type 0 where
  pub some : 0 < x.0
  pub below : x.0 < bound
  pub parts : text ≡ decimal x.0 ++ x.1

pub one_digit_more : (n d : ℕ) → n < 1000 → 0 < n → 48 ≤ d → d ≤ 57 → decimal (10 * n + (d - 48)) ≡ decimal n ++ d ∷ []
one_digit_more n d small some from to =
    let m : ℕ = 10 * n + (d - 48) in
    let front : m / 10 ≡ n = omega arith in
    let back : 48 + m % 10 ≡ d = omega arith in
    decimal_step m (omega arith) (omega arith) ∙ ap (λ k. decimal k ++ (48 + m % 10) ∷ []) front ∙ ap (λ k. decimal n ++ k ∷ []) back

pub more_read : (text : List ℕ) (bound n : ℕ) (rest : List ℕ) → bound ≤ 1000 → IsRead text bound (n, rest)
    → IsRead text (10 * bound) (one_more n rest)
unfolding one_more
more_read text bound n [] small h = record { some = h.some; below = omega (arith, h.below); parts = h.parts }
more_read text bound n (d ∷ rest) small h =
    by_bit (λ b. IsRead text (10 * bound) (if b then (10 * n + (d - 48), rest) else (n, d ∷ rest))) (is_ascii_digit d)
    (λ e. let d_is : (48 ≤ d) × (d ≤ 57) = digit_is d e in record {
      some = omega (arith, h.some);
      below = omega (arith, h.below);
      parts = h.parts
          ∙ sym (ap (λ ds. ds ++ rest) (one_digit_more n d (omega (arith, h.below)) h.some d_is.0 d_is.1)
          ∙ append_assoc (decimal n) (d ∷ []) rest);
    })
    (λ e. record { some = h.some; below = omega (arith, h.below); parts = h.parts })

pub number_takes : (text : List ℕ) (n : ℕ) (rest : List ℕ) → number_at text ≡ Some (n, rest) → (n < 10000) × (text ≡ decimal n ++ rest)
unfolding number_at three_more
number_takes [] n rest is = absurd (cc)
number_takes (d ∷ text) n rest is =
    by_bit (λ b. (d == 48) ≡ b
    → (if b then Some (0, text) else (if is_ascii_digit d then Some (three_more (d - 48) text) else None)) ≡ Some (n, rest) →
    (n < 10000) × (d ∷ text ≡ decimal n ++ rest)) (d == 48)
    (λ _ e is. let both = some_is (0, text) (n, rest) is in
    let n_is : 0 ≡ n = ap (λ (x : ℕ × List ℕ). x.0) both in
    let rest_is : text ≡ rest = ap (λ (x : ℕ × List ℕ). x.1) both in (
      omega arith,
      ap (λ k. k ∷ text) (eqb-true d 48 e) ∙ ap (λ r. 48 ∷ r) rest_is
          ∙ sym (ap (λ ds. ds ++ rest) (decimal_digit 0 (omega arith))) ∙ ap (λ k. decimal k ++ rest) n_is,
    ))
    (λ _ e. by_bit (λ b. is_ascii_digit d ≡ b → (if b then Some (three_more (d - 48) text) else None) ≡ Some (n, rest) → (n < 10000)
    × (d ∷ text ≡ decimal n ++ rest)) (is_ascii_digit d)
    (λ _ digit is.
    let d_is : (48 ≤ d) × (d ≤ 57) = digit_is d digit in
    let ne : d ≢ 48 = eqb-false d 48 e in
    let one : IsRead (d ∷ text) 10 (d - 48, text) = record {
      some = omega arith;
      below = omega arith;
      parts = ap (λ k. k ∷ text) (omega arith) ∙ sym (ap (λ ds. ds ++ text) (decimal_digit (d - 48) (omega arith)));
    } in
    let a = one_more (d - 48) text in
    let b = one_more a.0 a.1 in
    let all : IsRead (d ∷ text) 10000 (three_more (d - 48) text) =
    more_read (d ∷ text) 1000 b.0 b.1 (omega arith)
    (more_read (d ∷ text) 100 a.0 a.1 (omega arith) (more_read (d ∷ text) 10 (d - 48) text (omega arith) one)) in
    let same : three_more (d - 48) text ≡ (n, rest) = some_is (three_more (d - 48) text) (n, rest) is in
    let read : IsRead (d ∷ text) 10000 (n, rest) = subst (λ x. IsRead (d ∷ text) 10000 x) same all in
    (read.below, read.parts))
    (λ _ digit is. absurd (cc)) refl)
    refl is

-- a number behind a space
pub field_takes : (text : List ℕ) (n : ℕ) (rest : List ℕ) → field_at text ≡ Some (n, rest) → (n < 10000) × (text ≡ field n ++ rest)
unfolding field_at
field_takes [] n rest is = absurd (cc)
field_takes (b ∷ text) n rest is =
    by_bit (λ c. (b == 32) ≡ c → (if c then number_at text else None) ≡ Some (n, rest) → (n < 10000)
    × (b ∷ text ≡ field n ++ rest)) (b == 32)
    (λ _ e is. let taken = number_takes text n rest is in (taken.0, ap (λ k. k ∷ text) (eqb-true b 32 e) ∙ ap (λ xs. 32 ∷ xs) taken.1))
    (λ _ e is. absurd (cc))
    refl is

pub field_again : (n : ℕ) (rest : List ℕ) → n < 10000 → Ends rest → field_at (field n ++ rest) ≡ Some (n, rest)
unfolding field_at
field_again n rest small ends = number_again n rest small ends

pub bit_small : (b : Bool) → bit b < 10000
bit_small true = omega arith
bit_small false = omega arith

pub bit_of : (n : ℕ) → n < 2 → bit (n == 1) ≡ n
bit_of zero small = refl
bit_of (suc zero) small = refl
bit_of (suc (suc n)) small = absurd (omega arith)

-- a truth value behind a space
pub flag_takes : (text : List ℕ) (b : Bool) (rest : List ℕ) → flag_at text ≡ Some (b, rest) → text ≡ field (bit b) ++ rest
unfolding flag_at
flag_takes text b rest is =
    let x = bind_some _ (field_at text) (b, rest) is in
    let n = x.0.0 in
    by_bit (λ c. (nat_lt n 2) ≡ c →
    ◌≡◌ {A = Option (Bool × List ℕ)} (if◌then◌else◌ {A = Option (Bool × List ℕ)} c (Some (n == 1, x.0.1)) None) (Some (b, rest)) →
    text ≡ field (bit b) ++ rest) (nat_lt n 2)
    (λ _ e is.
    let both = some_is (n == 1, x.0.1) (b, rest) is in
    let b_is : (n == 1) ≡ b = ap (λ (y : Bool × List ℕ). y.0) both in
    let rest_is : x.0.1 ≡ rest = ap (λ (y : Bool × List ℕ). y.1) both in
    (field_takes text n x.0.1 x.1).1 ∙ ap (λ r. field n ++ r) rest_is
    ∙ ap (λ k. field k ++ rest) (sym (bit_of n (ltb-true n 2 e)) ∙ ap bit b_is))
    (λ _ e is. absurd (cc))
    refl x.2

pub flag_again : (b : Bool) (rest : List ℕ) → Ends rest → flag_at (field (bit b) ++ rest) ≡ Some (b, rest)
unfolding flag_at
flag_again true rest ends = bind_is _ (field_at (field 1 ++ rest)) (1, rest) _ (field_again 1 rest (omega arith) ends) refl
flag_again false rest ends = bind_is _ (field_at (field 0 ++ rest)) (0, rest) _ (field_again 0 rest (omega arith) ends) refl

pub end_takes : (text rest : List ℕ) → end_at text ≡ Some rest → text ≡ 10 ∷ rest
unfolding end_at
end_takes [] rest is = absurd (cc)
end_takes (b ∷ text) rest is =
    by_bit (λ c. (b == 10) ≡ c → (if c then Some text else None) ≡ Some rest → b ∷ text ≡ 10 ∷ rest) (b == 10)
    (λ _ e is. let same : text ≡ rest = cc in ap (λ k. k ∷ text) (eqb-true b 10 e) ∙ ap (λ xs. 10 ∷ xs) same)
    (λ _ e is. absurd (cc))
    refl is

pub end_again : (rest : List ℕ) → end_at (10 ∷ rest) ≡ Some rest
unfolding end_at
end_again rest = refl
