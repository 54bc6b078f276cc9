-- Ways through links: what a way passes, how two are joined, and what a written link changes.
use Rattle.std.proofs.Common.{◌≡◌, ◌≢◌, ℕ, zero, suc, ◌+◌, ◌<◌, ◌≤◌, ◌⊎◌, inl, inr, List, [], ◌∷◌, ◌++◌, length, get_or, set, take, drop}
use Rattle.std.proofs.Common.{refl, sym, ◌∙◌, ap, arith, get_or-set_same, get_or-set_other}
use Rattle.std.proofs.lemmas.Bool.Decides.{eqb_tells}
use Rattle.lot_places.specs.Links.{times, last_of, way_from}

pub times-append : (p : ℕ) (xs ys : List ℕ) → times p (xs ++ ys) ≡ times p xs + times p ys
times-append p [] ys = omega arith
times-append p (x ∷ xs) ys = omega (arith, times-append p xs ys)

pub times_here : (p : ℕ) (xs : List ℕ) → times p (p ∷ xs) ≡ 1 + times p xs
times_here p xs = elim (eqb_tells p p) [ inl e ↦ rw e.0 refl | inr e ↦ absurd (e.1 refl) ]

pub times_below : (p x : ℕ) (xs : List ℕ) → times p xs ≤ times p (x ∷ xs)
times_below p x xs = omega arith

-- who does not stand in a list is neither its first nor in the rest
pub not_first : (p x : ℕ) (xs : List ℕ) → times p (x ∷ xs) ≡ 0 → x ≢ p
not_first p x xs none same = let one : times p (x ∷ xs) ≡ 1 + times p xs = rw same (times_here p xs) in omega arith

pub not_in_rest : (p x : ℕ) (xs : List ℕ) → times p (x ∷ xs) ≡ 0 → times p xs ≡ 0
not_in_rest p x xs none = omega (arith, times_below p x xs)

-- the last of a list stands in it
pub last_stands : (b : ℕ) (xs : List ℕ) → 0 < times (last_of b xs) (b ∷ xs)
last_stands b [] = omega (arith, times_here b [])
last_stands b (x ∷ xs) = omega (arith, last_stands x xs, times_below (last_of x xs) b (x ∷ xs))

pub start_or_stands : (b : ℕ) (xs : List ℕ) → (last_of b xs ≡ b) ⊎ (0 < times (last_of b xs) xs)
start_or_stands b [] = inl refl
start_or_stands b (x ∷ xs) = inr (last_stands x xs)

pub last_of-append : (b : ℕ) (xs ys : List ℕ) → last_of b (xs ++ ys) ≡ last_of (last_of b xs) ys
last_of-append b [] ys = refl
last_of-append b (x ∷ xs) ys = last_of-append x xs ys

-- from place p the links lead through just these places, and then to place e
abbrev pub Leads : List ℕ → ℕ → List ℕ → ℕ → Type 0
Leads next p [] e = p ≡ e
Leads next p (x ∷ xs) e = (p ≡ x) × Leads next (get_or next x 0) xs e

pub length-way_from : (next : List ℕ) (n p : ℕ) → length (way_from next n p) ≡ n
length-way_from next zero p = refl
length-way_from next (suc n) p = ap suc (length-way_from next n (get_or next p 0))

pub Leads-way_from : (next : List ℕ) (n p : ℕ) → (e : ℕ) × Leads next p (way_from next n p) e
Leads-way_from next zero p = (p, refl)
Leads-way_from next (suc n) p = let later = Leads-way_from next n (get_or next p 0) in (later.0, (refl, later.1))

pub way_from-Leads : (next : List ℕ) (p : ℕ) (xs : List ℕ) (e : ℕ) → Leads next p xs e → way_from next (length xs) p ≡ xs
way_from-Leads next p [] e leads = refl
way_from-Leads next p (x ∷ xs) e leads = rw leads.0 (ap (λ ys. x ∷ ys) (way_from-Leads next (get_or next x 0) xs e leads.1))

pub Leads-append : (next : List ℕ) (p : ℕ) (xs : List ℕ) (m : ℕ) (ys : List ℕ) (e : ℕ) → Leads next p xs m → Leads next m ys e
    → Leads next p (xs ++ ys) e
Leads-append next p [] m ys e to from = rw to from
Leads-append next p (x ∷ xs) m ys e to from = (to.0, Leads-append next (get_or next x 0) xs m ys e to.1 from)

pub Leads-split : (next : List ℕ) (p : ℕ) (xs ys : List ℕ) (e : ℕ) → Leads next p (xs ++ ys) e
    → (m : ℕ) × Leads next p xs m × Leads next m ys e
Leads-split next p [] ys e leads = (p, refl, leads)
Leads-split next p (x ∷ xs) ys e leads =
    let later = Leads-split next (get_or next x 0) xs ys e leads.1 in (later.0, (leads.0, later.1), later.2)

-- a way that passes some place passes first the one where it begins
pub first_of_way : (next : List ℕ) (p : ℕ) (xs : List ℕ) (e : ℕ) → 0 < length xs → Leads next p xs e → xs ≡ p ∷ drop 1 xs
first_of_way next p [] e some leads = absurd (omega arith)
first_of_way next p (x ∷ xs) e some leads = ap (λ y. y ∷ xs) (sym leads.0)

-- a link written at a place that a way does not pass
pub Leads-set : (next : List ℕ) (q v p : ℕ) (xs : List ℕ) (e : ℕ) → times q xs ≡ 0 → Leads next p xs e → Leads (set next q v) p xs e
Leads-set next q v p [] e none leads = leads
Leads-set next q v p (x ∷ xs) e none leads = (
  leads.0,
  rw (get_or-set_other next q x v 0 (not_first q x xs none))
      (Leads-set next q v (get_or next x 0) xs e (not_in_rest q x xs none) leads.1),
)

-- a link written at the last place of a way, which leads elsewhere then
pub Leads-redirect : (next : List ℕ) (b : ℕ) (xs : List ℕ) (e v : ℕ) → ((q : ℕ) → times q (b ∷ xs) ≤ 1) → last_of b xs < length next
    → Leads next (get_or next b 0) xs e → Leads (set next (last_of b xs) v) (get_or (set next (last_of b xs) v) b 0) xs v
Leads-redirect next b [] e v once bound leads = get_or-set_same next b v 0 bound
Leads-redirect next b (x ∷ xs) e v once bound leads =
    let last = last_of x xs in
    let other : b ≢ last =
    λ same. (let twice : times last (b ∷ x ∷ xs) ≡ 1 + times last (x ∷ xs) = rw same (times_here last (x ∷ xs)) in
    omega (arith, once last, last_stands x xs)) in (
      get_or-set_other next last b v 0 other ∙ leads.0,
      Leads-redirect next x xs e v (λ q. omega (arith, once q, times_below q b (x ∷ xs))) bound leads.1,
    )

-- the place that comes after the first i
pub next_of_last : (next : List ℕ) (b : ℕ) (xs : List ℕ) (e i : ℕ) → i < length xs → Leads next (get_or next b 0) xs e
    → get_or next (last_of b (take i xs)) 0 ≡ get_or xs i 0
next_of_last next b [] e i lt leads = absurd (omega arith)
next_of_last next b (x ∷ xs) e zero lt leads = leads.0
next_of_last next b (x ∷ xs) e (suc i) lt leads = next_of_last next x xs e i (omega arith) leads.1
