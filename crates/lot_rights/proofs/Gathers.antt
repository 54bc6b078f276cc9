-- Rights that come to one seat, the last of a list first, and what is known of them there.
use Rattle.std.proofs.Common.{◌≡◌, ◌<◌, ℕ, List, [], ◌∷◌, ◌++◌, length, map, reverse, Some, sym, ap, subst, ◌∙◌, arith}
use Rattle.std.specs.List.{All, Any}
use Rattle.std.proofs.lemmas.List.{append-nil, append_assoc, reverse-append}
use Rattle.std.proofs.lemmas.List.Elements.{All-nil, All-cons, All-pop}
use Rattle.lot_rights.specs.Seating.{Each}
use Rattle.lot_rights.specs.Shown.{PassShown}

module _ {A R : Type 0} (right : A → R) where
  -- the seat took in the right of the last, which is gone from the list
  pub gathered : (v own v' : List R) (xs ys : List A) (y : A) → v' ≡ v ++ own → own ≡ right y ∷ [] → xs ≡ ys ++ y ∷ []
      → v' ++ map right (reverse ys) ≡ v ++ map right (reverse xs)
  gathered v own v' xs ys y e f g =
      ap (λ z. z ++ map right (reverse ys)) (e ∙ ap (λ z. v ++ z) f)
      ∙ (append_assoc v (right y ∷ []) (map right (reverse ys))
      ∙ ap (λ z. v ++ map right z) (sym (ap reverse g ∙ reverse-append ys (y ∷ []))))

  -- the list is empty, so the seat has all
  pub gathered_all : (v : List R) (xs : List A) → length xs ≡ 0 → v ≡ v ++ map right (reverse xs)
  gathered_all v [] e = sym (append-nil v)
  gathered_all v (x ∷ xs) e = absurd (omega arith)

  module _ (number : R → ℕ) (F : R → Type 0) where
    pub each_given : (xs : List A) → Each number F (map right xs) → All (λ (x : A). F (right x)) xs
    each_given [] e = All-nil (λ (x : A). F (right x))
    each_given (x ∷ xs) e = All-cons (λ (x : A). F (right x)) x xs e.0 (each_given xs e.1)

-- ---- rights in lists
module _ {R : Type 0} (number : R → ℕ) (F : R → Type 0) where
  pub each_left : (v w : List R) → Each number F (v ++ w) → Each number F v
  each_left [] w e = tt
  each_left (r ∷ v) w e = (e.0, each_left v w e.1)

  pub each_right : (v w : List R) → Each number F (v ++ w) → Each number F w
  each_right [] w e = e
  each_right (r ∷ v) w e = each_right v w e.1

-- the last of a list is taken from it
pub all_popped : {A : Type 0} (P : A → Type 0) (xs ys : List A) (y : A) → xs ≡ ys ++ y ∷ [] → All P xs → All P ys × P y
all_popped P xs ys y e h = let r = All-pop P xs ys (Some y) e h in (r.0, r.1)

-- the passes of all threads of a table that is shown are those of all its threads
pub all_shown : {Z P : Type 0} (threads : Z → ℕ) {z shown : Z} → z ≡ shown → (passes : List (PassShown P))
    → ((t : ℕ) → t < threads shown → Any (λ (p : PassShown P). p.thread ≡ t) passes)
    → (t : ℕ) → t < threads z → Any (λ (p : PassShown P). p.thread ≡ t) passes
all_shown {P = P} threads is passes all = subst (λ y. (t : ℕ) → t < threads y → Any (λ (p : PassShown P). p.thread ≡ t) passes) (sym is) all

-- so a table of some threads, all of whose passes are shown, has a pass
pub some_shown : {Z P : Type 0} (threads : Z → ℕ) {z shown : Z} → z ≡ shown → 0 < threads z → (passes : List (PassShown P)) (n : ℕ)
    → n ≡ length passes → ((t : ℕ) → t < threads shown → Any (λ (p : PassShown P). p.thread ≡ t) passes) → 0 < n
some_shown threads is some passes n long all = let first = all_shown threads is passes all 0 some in omega (arith, first.2)
