-- What stands in a line after a thread joined it or left it.
use Rattle.std.proofs.Common.{◌≡◌, ◌≢◌, ℕ, suc, ◌+◌, ◌<◌, ◌≤◌, Bool, true, false, List, [], ◌∷◌, ◌++◌, length, take, drop}
use Rattle.std.proofs.Common.{refl, subst, sym, inl, inr, arith}
use Rattle.std.specs.List.{Contains}
use Rattle.lot_core.specs.Sound.{IsOnce}
use Rattle.std.proofs.lemmas.Bool.{cases_lt}
use Rattle.std.proofs.lemmas.List.{take-append-drop, get_or-drop, length-drop, drop_all}
use Rattle.std.proofs.lemmas.List.Elements.{Contains-append_left, Contains-append_right, Contains-push, Contains-push_cases}
use Rattle.std.proofs.lemmas.List.Elements.{Contains-get_or}
use Rattle.std.proofs.lemmas.List.Quantifiers.{all_pairs_push}

pub in_tail : (u : ℕ) (rest : List ℕ) (t : ℕ) → Contains rest t → Contains (u ∷ rest) t
in_tail u rest t h = Contains-append_right (u ∷ []) rest t h

pub in_head : (u : ℕ) (rest : List ℕ) → Contains (u ∷ rest) u
in_head u rest = Contains-append_left (u ∷ []) rest u (Contains-push [] u)

pub in_none : (t : ℕ) → Contains [] t → ⊥
in_none t h = omega (arith, h.1)

pub two_from : (u : ℕ) (rest : List ℕ) (t : ℕ) → Contains rest t → 2 ≤ length (u ∷ rest)
two_from u rest t h = omega (arith, h.1)

pub once_tail : (u : ℕ) (rest : List ℕ) → IsOnce (u ∷ rest) → IsOnce rest
once_tail u rest h = λ i j d before within. h (suc i) (suc j) d (omega arith) (omega arith)

pub head_left : (u : ℕ) (rest : List ℕ) → IsOnce (u ∷ rest) → Contains rest u → ⊥
head_left u rest h (k, within, is) = h 0 (suc k) u (omega arith) (omega arith) (sym is)

pub once_push : (xs : List ℕ) (t : ℕ) → IsOnce xs → (Contains xs t → ⊥) → IsOnce (xs ++ t ∷ [])
once_push xs t h out =
    all_pairs_push (λ t u. t ≢ u) xs t h (λ k d within same. out (subst (λ u. Contains xs u) same (Contains-get_or xs k d within)))

-- who stays in a line when its first n leave
pub in_drop : (n : ℕ) (xs : List ℕ) (t : ℕ) → Contains (drop n xs) t → Contains xs t
in_drop n xs t h = subst (λ ys. Contains ys t) (take-append-drop n xs) (Contains-append_right (take n xs) (drop n xs) t h)

pub once_drop : (n : ℕ) (xs : List ℕ) → IsOnce xs → IsOnce (drop n xs)
once_drop n xs h = λ i j d before within.
    rw (get_or-drop n xs i d, get_or-drop n xs j d)
    (h (n + i) (n + j) d (omega arith) (omega (arith, length-drop n xs)))

pub some_behind : (n : ℕ) (xs : List ℕ) → drop n xs ≢ [] → n < length xs
some_behind n xs some = elim (cases_lt n (length xs)) [ inl within ↦ within | inr past ↦ absurd (some (drop_all n xs past)) ]

-- what holds of each of a line, and of who joins it
pub each_push : (P : ℕ → Type 0) (xs : List ℕ) (t : ℕ) → ((u : ℕ) → Contains xs u → P u) → P t → (u : ℕ) → Contains (xs ++ t ∷ []) u → P u
each_push P xs t each joins u inside =
    elim (Contains-push_cases xs t u inside) [ inl before ↦ each u before | inr same ↦ subst P same joins ]

-- where who stands in a line means that a bit is set, nobody does while it is clear
pub unmarked_none : {bit : Bool} (xs : List ℕ) → ((t : ℕ) → Contains xs t → bit ≡ true) → bit ≡ false → xs ≡ []
unmarked_none [] marked clear = refl
unmarked_none (u ∷ rest) marked clear = let set = marked u (in_head u rest) in absurd (cc)

pub once_none : IsOnce []
once_none = λ i j d before within. absurd (omega arith)
