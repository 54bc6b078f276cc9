-- Letters that roots owe, of which one root's change.
use Rattle.std.proofs.Common.{◌≡◌, ℕ, suc, ◌+◌, ◌==◌, cond, Bool, true, false, refl, ap, sym, subst, ◌∙◌, arith}
use Rattle.std.specs.Prelude.{◌&&◌, nat_le, nat_lt, if◌then◌else◌}
use Rattle.std.proofs.lemmas.Bool.{lt-ltb, le-leb, ltb-true, leb-true}
use Rattle.lot_core.specs.Model.{put}
use Rattle.lot_core.proofs.Put.{by_bit}
use Rattle.lot_rights.specs.World.{Sizes, IsKeyOf, is_key_of, owed_at}
use Rattle.lot_rights.proofs.Puts.{by_test, put_elim}

-- where each root owes none, none are owed
pub owed_none : {R : Type 0} (z : Sizes) (owes : R → ℕ) (root : ℕ → R) (c : ℕ) → owes (root c) ≡ 0 → owed_at z owes root c ≡ 0
owed_none z owes root c none = by_bool (is_key_of z c)
  where
    by_bool : (b : Bool) → (if b then owes (root c) else 0) ≡ 0
    by_bool true = none
    by_bool false = refl

pub is_key : (z : Sizes) (c : ℕ) → IsKeyOf z c → is_key_of z c ≡ true
is_key z c is = ap (λ b. b && nat_lt c (z.first + z.keys)) (le-leb z.first c is.0) ∙ lt-ltb c (z.first + z.keys) is.1

-- and none by the root of what is no key
pub owed_else : {R : Type 0} (z : Sizes) (owes : R → ℕ) (root : ℕ → R) (c : ℕ) → (¬ IsKeyOf z c) → owed_at z owes root c ≡ 0
owed_else z owes root c out = by_bit (λ b. (if b && nat_lt c (z.first + z.keys) then owes (root c) else 0) ≡ 0) (nat_le z.first c)
    (λ low. by_bit (λ b. (if b then owes (root c) else 0) ≡ 0) (nat_lt c (z.first + z.keys))
    (λ high. absurd (out (leb-true z.first c low, ltb-true c (z.first + z.keys) high))) (λ _. refl))
    (λ _. refl)

pub no_more : (b : Bool) → ◌≡◌ {A = ℕ} (cond b 0 0) 0
no_more true = refl
no_more false = refl

-- and so many by that of a key
pub owed_here : {R : Type 0} (z : Sizes) (owes : R → ℕ) (root : ℕ → R) (c : ℕ) → IsKeyOf z c → owed_at z owes root c ≡ owes (root c)
owed_here z owes root c is = ap (λ b. if b then owes (root c) else 0) (is_key z c is)

module _ {R : Type 0} (z : Sizes) (owes : R → ℕ) (root : ℕ → R) (k : ℕ) (x : R) where
  -- of the other keys as many are owed as before
  by_key : (m n : ℕ) → IsKeyOf z k → m + owes (root k) ≡ n + owes x
      → (c : ℕ) → cond (c == k) m 0 + owed_at z owes root c ≡ cond (c == k) n 0 + owed_at z owes (put root k x) c
  by_key m n is same c = by_test
      (λ b. cond b m 0 + owed_at z owes root c ≡ cond b n 0 + (if is_key_of z c then owes (cond b x (root c)) else 0)) c k
      (λ e. subst (λ d. m + owed_at z owes root d ≡ n + (if is_key_of z d then owes x else 0)) (sym e)
      (subst (λ b. m + (if b then owes (root k) else 0) ≡ n + (if b then owes x else 0)) (sym (is_key z k is)) same))
      (λ _. refl)

  -- the root owes so many letters more
  pub owed_more : (n : ℕ) → IsKeyOf z k → n + owes (root k) ≡ owes x
      → (c : ℕ) → cond (c == k) n 0 + owed_at z owes root c ≡ 0 + owed_at z owes (put root k x) c
  owed_more n is more c = let none = by_key n 0 is (omega (arith, more)) c in omega (arith, none, no_more (c == k))

  -- the root owes one letter less
  pub owed_less : IsKeyOf z k → suc (owes x) ≡ owes (root k)
      → (c : ℕ) → 0 + owed_at z owes root c ≡ cond (c == k) 1 0 + owed_at z owes (put root k x) c
  owed_less is less c = let one = by_key 0 1 is (omega (arith, less)) c in omega (arith, one, no_more (c == k))

  -- the root owes as many as before
  pub owed_same : owes (root k) ≡ owes x → (c : ℕ) → 0 + owed_at z owes root c ≡ 0 + owed_at z owes (put root k x) c
  owed_same same c = ap (λ n. 0 + n) (put_elim (λ y. (if is_key_of z c then owes (root c) else 0) ≡ (if is_key_of z c then owes y else 0))
      root k x c
      (λ e. ap (λ n. if is_key_of z c then n else 0) (subst (λ d. owes (root d) ≡ owes x) (sym e) same))
      (λ _. refl))
