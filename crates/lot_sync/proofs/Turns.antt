-- Passes that are gathered.
use Rattle.std.proofs.Common.{◌≡◌, ℕ, ◌<◌, ◌+◌, List, [], ◌∷◌, ◌++◌, map, sym, subst, ◌∙◌, arith}
use mathlib.Core.Logic.{dite}
use native.Mathlib.Decide.{ℕ_discrete}
use Rattle.std.specs.List.{All, Any}
use Rattle.std.proofs.lemmas.List.Elements.{All-nil, All-cons, All-push, All-head, All-tail}
use Rattle.std.proofs.lemmas.List.Quantifiers.{Any-push}
use Rattle.std.proofs.lemmas.Grind.{common_steps}
use Rattle.lot_sync.specs.Lot.{PassView, OwnsNone}

module _ {A B : Type 0} (f : A → B) where
  pub all_before : (P : B → Type 0) (xs : List A) → All P (map f xs) → All (λ x. P (f x)) xs
  all_before P [] all = All-nil (λ x. P (f x))
  all_before P (x ∷ xs) all =
      All-cons (λ y. P (f y)) x xs (All-head P (f x) (map f xs) all) (all_before P xs (All-tail P (f x) (map f xs) all))

module _ {A : Type 0} where
  -- what is so of some element is so of one where the list goes on
  any_more : (F : A → Type 0) (xs : List A) (y : A) → Any F xs → Any F (xs ++ y ∷ [])
  any_more F xs y (k, x, near, is, holds) = (k, x, grind (arith, common_steps), grind (arith, common_steps), holds)

-- one pass more is there
pub all_threads : {V : Type 0} (xs : List (PassView V)) (x : PassView V) (n : ℕ) → x.thread ≡ n
    → ((t : ℕ) → t < n → Any (λ (p : PassView V). p.thread ≡ t) xs)
    → (t : ℕ) → t < n + 1 → Any (λ (p : PassView V). p.thread ≡ t) (xs ++ x ∷ [])
all_threads xs x n is before t near = dite (ℕ_discrete t n)
    (λ e. Any-push (λ p. p.thread ≡ t) xs x (is ∙ sym e))
    (λ else. any_more (λ p. p.thread ≡ t) xs x (before t (omega arith)))

module _ {V : Type 0} where
  -- each thread below n has its pass in the list
  abbrev pub AreThere : List (PassView V) → ℕ → Type 0
  AreThere passes n = (t : ℕ) → t < n → Any (λ (p : PassView V). p.thread ≡ t) passes

  -- one pass more is there
  pub more_are_there : (before after : List (PassView V)) (pass : PassView V) (n : ℕ) → after ≡ before ++ pass ∷ [] → pass.thread ≡ n
      → AreThere before n → AreThere after (n + 1)
  more_are_there before after pass n is thread there t near = subst (Any (λ (p : PassView V). p.thread ≡ t)) (sym is)
      (all_threads before pass n thread there t near)

  pub more_are_free : (before after : List (PassView V)) (pass : PassView V) → after ≡ before ++ pass ∷ [] → All OwnsNone before
      → OwnsNone pass → All OwnsNone after
  more_are_free before after pass is free own = subst (All OwnsNone) (sym is) (All-push OwnsNone before pass free own)
