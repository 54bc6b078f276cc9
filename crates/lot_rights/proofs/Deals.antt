-- The first seat's rights are dealt out, one at a time.
use Rattle.std.proofs.Common.{◌≡◌, ℕ, zero, suc, ◌+◌, ◌<◌, List, [], ◌∷◌, ◌++◌, length, take, drop, slice_get, Some, refl, sym, ap, subst}
use Rattle.std.proofs.Common.{◌∙◌, arith}
use mathlib.Core.Logic.{dite}
use native.Mathlib.Decide.{ℕ_discrete}
use Rattle.atomic_table.specs.Table.{Me}
use Rattle.lot_rights.specs.declared.views.PassRight.{PassRight}
use Rattle.lot_rights.specs.declared.views.RootRight.{RootRight}
use Rattle.lot_rights.specs.declared.views.Right.{Right}
use Rattle.lot_rights.specs.declared.views.Right.TheVariants.{Pass, Root}
use Rattle.lot_rights.specs.Shown.{the_pass, the_root}
use Rattle.lot_rights.specs.Start.{rights_from}

-- where some are left, the first of them is the next
pub next_from : {A : Type 0} (right : ℕ → A) (c c' n n' : ℕ) → c' ≡ c + 1 → n ≡ n' + 1
    → rights_from right c n ≡ right c ∷ rights_from right c' n'
next_from right c c' n n' e f =
    let g : n ≡ suc n' = omega arith in ap (rights_from right c) g ∙ ap (λ z. right c ∷ rights_from right z n') (sym e)

module _ {S A : Type 0} (me : Me S (List A)) (r : A) (rs : List A) (is : me ≡ (r ∷ rs, [])) where
  pub has_first : me.0 ≡ r ∷ rs
  has_first = ap (λ (m : Me S (List A)). m.0) is

  -- what stays with the seat, and what the new one has
  pub left_over : (me' : Me S (List A)) → me' ≡ (drop 1 me.0, me.1) → me' ≡ (rs, [])
  left_over me' e = e ∙ ap (λ (m : Me S (List A)). (drop 1 m.0, m.1)) is

  pub dealt_out : (own : Me S (List A)) → own ≡ (take 1 me.0, []) → own ≡ (r ∷ [], [])
  dealt_out own e = e ∙ ap (λ (m : Me S (List A)). (take 1 m.0, [])) is

-- what a seat with one right is seen as
module _ {S P R : Type 0} (nobody : P) (nothing : R) (me : Me S (List (Right P R))) where
  pub one_pass : (p : PassRight P) → me ≡ (Pass p ∷ [], []) → me ≡ (Pass (the_pass nobody me.0) ∷ [], [])
  one_pass p e = subst (λ (m : Me S (List (Right P R))). m ≡ (Pass (the_pass nobody m.0) ∷ [], [])) (sym e) refl

  pub pass_seen : (p : PassRight P) → me ≡ (Pass p ∷ [], []) → the_pass nobody me.0 ≡ p
  pass_seen p e = ap (λ (m : Me S (List (Right P R))). the_pass nobody m.0) e

  pub one_root : (q : RootRight R) → me ≡ (Root q ∷ [], []) → me ≡ (Root (the_root nothing me.0) ∷ [], [])
  one_root q e = subst (λ (m : Me S (List (Right P R))). m ≡ (Root (the_root nothing m.0) ∷ [], [])) (sym e) refl

  pub root_seen : (q : RootRight R) → me ≡ (Root q ∷ [], []) → the_root nothing me.0 ≡ q
  root_seen q e = ap (λ (m : Me S (List (Right P R))). the_root nothing m.0) e

-- ---- lists that grow at the end
module _ {A : Type 0} where
  pub get_before : (xs : List A) (x : A) (k : ℕ) → k < length xs → slice_get (xs ++ x ∷ []) k ≡ slice_get xs k
  get_before [] x k near = absurd (omega arith)
  get_before (y ∷ xs) x zero near = refl
  get_before (y ∷ xs) x (suc k) near = get_before xs x k (omega arith)

  pub get_last : (xs : List A) (x : A) → slice_get (xs ++ x ∷ []) (length xs) ≡ Some x
  get_last [] x = refl
  get_last (y ∷ xs) x = get_last xs x

  -- each of the list is what f tells of its place, and so is one more
  pub get_more : (f : ℕ → A) (xs : List A) (x : A) (n : ℕ) → length xs ≡ n → ((k : ℕ) → k < n → slice_get xs k ≡ Some (f k)) → x ≡ f n
      → (k : ℕ) → k < n + 1 → slice_get (xs ++ x ∷ []) k ≡ Some (f k)
  get_more f xs x n len each e k near = dite (ℕ_discrete k n)
      (λ last. subst (λ j. slice_get (xs ++ x ∷ []) j ≡ Some (f j)) (sym last)
      (subst (λ j. slice_get (xs ++ x ∷ []) j ≡ Some (f n)) len (get_last xs x ∙ ap (λ y. Some y) e)))
      (λ ne. let before : k < n = omega arith in get_before xs x k (omega arith) ∙ each k before)
