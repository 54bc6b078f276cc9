-- Texts that grow line by line.
use Rattle.std.proofs.Common.{zero, suc, ◌≡◌, ◌≢◌, ◌<◌, ◌≤◌, ◌+◌, ◌++◌, ℕ, Bool, true, false, List, [], ◌∷◌, Some, None, refl, sym, ap, ◌∙◌}
use Rattle.std.proofs.Common.{arith, append_assoc, add-zero, length-take-le}
use Rattle.std.specs.Prelude.{flat_map, find}
use Rattle.std.specs.List.{range_with_len, join_by}
use Rattle.std.specs.Prelude.{if◌then◌else◌, decimal, codes, slice_get, take, length}
use Rattle.std.proofs.lemmas.List.{append-nil, take_more, take_all}
use Rattle.std.proofs.lemmas.Option.{get_or_from_slice_get, slice_get_within}
use Rattle.std.proofs.lemmas.Bool.{eq-eqb, ne_eqb}
use Rattle.lot_core.specs.State.{owns}
use Rattle.lot_core.specs.Printed.{line_text}

-- one more number at the end
pub range_more : (a n : ℕ) → range_with_len a (n + 1) ≡ range_with_len a n ++ (a + n) ∷ []
range_more a zero = ap (λ k. k ∷ []) (sym (add-zero a))
range_more a (suc n) =
    ap (range_with_len a) {y = suc (n + 1)} (omega arith)
    ∙ ap (λ xs. a ∷ xs) (range_more (a + 1) n ∙ ap (λ k. range_with_len (a + 1) n ++ k ∷ []) (omega arith))

pub flat_map_push : (f : ℕ → List ℕ) (xs : List ℕ) (x : ℕ) → flat_map f (xs ++ x ∷ []) ≡ flat_map f xs ++ f x
flat_map_push f [] x = append-nil (f x)
flat_map_push f (y ∷ xs) x = ap (λ t. f y ++ t) (flat_map_push f xs x) ∙ sym (append_assoc (f y) (flat_map f xs) (f x))

-- one more line
pub text_more : (f : ℕ → List ℕ) (a n : ℕ) (old now next : List ℕ) → now ≡ old ++ flat_map f (range_with_len a n)
    → next ≡ now ++ f (a + n) →
    next ≡ old ++ flat_map f (range_with_len a (n + 1))
text_more f a n old now next so more =
    more ∙ ap (λ t. t ++ f (a + n)) so ∙ append_assoc old (flat_map f (range_with_len a n)) (f (a + n))
    ∙ ap (λ t. old ++ t) (sym (ap (flat_map f) (range_more a n) ∙ flat_map_push f (range_with_len a n) (a + n)))

-- nothing passes, so nothing is found
pub find_none : (p : ℕ → Bool) (n a : ℕ) → ((j : ℕ) → a ≤ j → j < a + n → p j ≡ false) → find p (range_with_len a n) ≡ None
find_none p zero a none = refl
find_none p (suc n) a none =
    ap (λ b. if b then Some a else find p (range_with_len (a + 1) n)) (none a (omega arith) (omega arith))
    ∙ find_none p n (a + 1) (λ j from to. none j (omega arith) (omega arith))

-- nothing passes before a + k, which passes
pub find_at : (p : ℕ → Bool) (n a k : ℕ) → k < n → ((j : ℕ) → a ≤ j → j < a + k → p j ≡ false) → p (a + k) ≡ true
    → find p (range_with_len a n) ≡ Some (a + k)
find_at p zero a k within before here = absurd (omega arith)
find_at p (suc n) a zero within before here =
    let at : p a ≡ true = ap p (sym (add-zero a)) ∙ here in
    ap (λ b. if b then Some a else find p (range_with_len (a + 1) n)) at ∙ ap Some (sym (add-zero a))
find_at p (suc n) a (suc k) within before here =
    let next : (a + 1) + k ≡ a + suc k = omega arith in
    ap (λ b. if b then Some a else find p (range_with_len (a + 1) n)) (before a (omega arith) (omega arith))
    ∙ find_at p n (a + 1) k (omega arith) (λ j from to. before j (omega arith) (omega arith)) (ap p next ∙ here)
    ∙ ap Some next

-- the first thread below n that has the lock
pub owner_found : (v n : ℕ) → v < n → Some v ≡ find (owns (Some v)) (range_with_len 0 n)
owner_found v n within =
    sym (find_at (owns (Some v)) n 0 v within (λ j from to. ne_eqb j v (λ e. omega arith))
    (eq-eqb (0 + v) v (omega arith)) ∙ ap Some (omega arith))

pub owner_past : (v n : ℕ) → n ≤ v → None ≡ find (owns (Some v)) (range_with_len 0 n)
owner_past v n past = sym (find_none (owns (Some v)) n 0 (λ j from to. ne_eqb j v (λ e. omega arith)))

pub owner_none : (n : ℕ) → None ≡ find (owns None) (range_with_len 0 n)
owner_none n = sym (find_none (owns None) n 0 (λ j from to. refl))

-- the text of a line: nobody, or threads that are joined by commas
pub queue_none : (xs old now : List ℕ) → xs ≡ [] → now ≡ old ++ codes "-" → now ≡ old ++ line_text xs
unfolding line_text
queue_none xs old now empty is = is ∙ ap (λ ys. old ++ line_text ys) (sym empty)

pub join_push : (xs : List ℕ) (x : ℕ) → xs ≢ []
    → join_by decimal (codes ",") (xs ++ x ∷ []) ≡ join_by decimal (codes ",") xs ++ (codes "," ++ decimal x)
join_push [] x some = absurd (some refl)
join_push (y ∷ ys) x some =
    ap (λ t. decimal y ++ t) (flat_map_push (λ z. codes "," ++ decimal z) ys x)
    ∙ sym (append_assoc (decimal y) (flat_map (λ z. codes "," ++ decimal z) ys) (codes "," ++ decimal x))

pub queue_more : (xs : List ℕ) (i x : ℕ) (old before now : List ℕ) → 0 < i → slice_get xs i ≡ Some x →
    before ≡ old ++ join_by decimal (codes ",") (take i xs) → now ≡ before ++ (codes "," ++ decimal x) →
    now ≡ old ++ join_by decimal (codes ",") (take (i + 1) xs)
queue_more xs i x old before now some at so is =
    let within : i < length xs = slice_get_within xs i x at in
    let next : take (i + 1) xs ≡ take i xs ++ x ∷ [] =
    take_more xs i x within ∙ ap (λ y. take i xs ++ y ∷ []) (get_or_from_slice_get xs i x x at) in
    let not_none : take i xs ≢ [] = λ e. omega (arith, ap length e, length-take-le i xs) in
    is ∙ ap (λ t. t ++ (codes "," ++ decimal x)) so
    ∙ append_assoc old (join_by decimal (codes ",") (take i xs)) (codes "," ++ decimal x)
    ∙ ap (λ t. old ++ t) (sym (ap (join_by decimal (codes ",")) next ∙ join_push (take i xs) x not_none))

pub queue_done : (xs : List ℕ) (i : ℕ) (old now : List ℕ) → 0 < length xs → length xs ≤ i
    → now ≡ old ++ join_by decimal (codes ",") (take i xs) → now ≡ old ++ line_text xs
unfolding line_text
queue_done [] i old now some past is = absurd (omega arith)
queue_done (u ∷ rest) i old now some past is = is ∙ ap (λ ys. old ++ join_by decimal (codes ",") ys) (take_all i (u ∷ rest) past)

pub length_some : (xs : List ℕ) → xs ≢ [] → 0 < length xs
length_some [] some = absurd (some refl)
length_some (u ∷ rest) some = omega arith
