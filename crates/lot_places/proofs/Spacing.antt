-- Evenly spaced keys, and which of them a key is.
use Rattle.std.proofs.Common.{◌≡◌, ◌≢◌, ℕ, zero, suc, ◌+◌, ◌-◌, ◌*◌, ◌/◌, ◌<◌, ◌≤◌, List, [], ◌∷◌, length, Option, Some, None}
use Rattle.std.proofs.Common.{refl, sym, ◌∙◌, ap, arith}
use Rattle.std.proofs.Math.Nat.{div-zero, mul-div_cancel, mul-lt-mul_of_pos_right}
use Rattle.std.specs.Option.{SomeIff, unwrap_or}
use Rattle.lot_places.specs.Places.{spaced, AreEven, IsFirst, IsMissing}

pub length-spaced : (first step n : ℕ) → length (spaced first step n) ≡ n
length-spaced first step zero = refl
length-spaced first step (suc n) = ap (λ m. suc m) (length-spaced (first + step) step n)

pub even_keys : (first step n : ℕ) → AreEven first step (spaced first step n)
even_keys first step zero i lt = absurd (omega arith)
even_keys first step (suc n) zero lt = omega arith
even_keys first step (suc n) (suc i) lt = even_keys (first + step) step n i (omega arith) ∙ omega arith

-- keys that are even are the spaced ones
pub spaced_from_even : (first step : ℕ) (keys : List ℕ) → AreEven first step keys → keys ≡ spaced first step (length keys)
spaced_from_even first step [] is = refl
spaced_from_even first step (k ∷ keys) is =
    let later = spaced_from_even (first + step) step keys (λ i lt. is (suc i) (omega arith) ∙ omega arith) in
    let here : k ≡ first = is 0 (omega arith) ∙ omega arith in
    rw here (ap (λ ks. first ∷ ks) later)

-- what division gives, or 0 by 0, is the quotient
pub quotient : (distance step : ℕ) (divided : Option ℕ) → SomeIff divided (0 < step) (distance / step)
    → unwrap_or divided 0 ≡ distance / step
quotient distance zero None is = sym (div-zero distance)
quotient distance (suc s) None is = absurd (is (omega arith))
quotient distance step (Some place) is = is.1

-- of two different places the keys differ where the quotient is the later one
before_quotient : (distance step place j : ℕ) → place ≡ distance / step → j < place → j * step < place * step
before_quotient distance zero place j is less = absurd (let none : place ≡ 0 = is ∙ div-zero distance in omega arith)
before_quotient distance (suc s) place j is less = mul-lt-mul_of_pos_right less (let h : 0 < suc s = omega arith in h)

-- the quotient of a key's distance by which nothing is left over is its first place
pub divided_first : (first step count key distance place : ℕ) → place ≡ distance / step → (first ≤ key) × (distance ≡ key - first)
    → place < count → place * step ≡ distance → IsFirst key (spaced first step count) place
divided_first first step count key distance place is far lt whole =
    let size = length-spaced first step count in
    let here : first + place * step ≡ key = omega (arith, far.0, far.1, whole) in
    record {
      bound = rw size lt;
      here = even_keys first step count place (rw size lt) ∙ here;
      before = λ j less e.
          let same : first + j * step ≡ key = sym (even_keys first step count j (rw size (omega arith))) ∙ e in
          omega (arith, before_quotient distance step place j is less, here, same);
    }

-- the distance of one of the keys has its place as the quotient
quotient_of_place : (step count distance place j : ℕ) → place ≡ distance / step → distance ≡ j * step → j < count
    → (place < count) × (place * step ≡ distance)
quotient_of_place zero count distance place j is far lt =
    let none : place ≡ 0 = is ∙ div-zero distance in (omega arith, rw none (omega arith))
quotient_of_place (suc s) count distance place j is far lt =
    let same : place ≡ j = is ∙ ap (λ n. n / suc s) far ∙ mul-div_cancel j (let h : 0 < suc s = omega arith in h) in
    (rw same lt, rw same (sym far))

pub divided_missing : (first step count key distance place : ℕ) → place ≡ distance / step → (first ≤ key) × (distance ≡ key - first)
    → (place < count → place * step ≢ distance) → IsMissing key (spaced first step count)
divided_missing first step count key distance place is far none j lt e =
    let same : first + j * step ≡ key = sym (even_keys first step count j lt) ∙ e in
    let within : j < count = rw (length-spaced first step count) at lt in
    let at = quotient_of_place step count distance place j is (omega (arith, far.1, same)) within in
    none at.0 at.1

pub below_missing : (first step count key : ℕ) → (first ≤ key → ⊥) → IsMissing key (spaced first step count)
below_missing first step count key below j lt e =
    below (let is : first + j * step ≡ key = sym (even_keys first step count j lt) ∙ e in omega arith)
