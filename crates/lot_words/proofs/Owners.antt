-- A lock's owner, if any, and who has the lock.
use Rattle.std.proofs.Common.{◌≡◌, ◌≢◌, ℕ, ◌⊎◌, true, false, Option, Some, None, is_some, refl, sym, ap, ◌∙◌, inl, inr, eq-eqb, ne_eqb}
use Rattle.std.specs.Prelude.{◌==◌}
use Rattle.std.proofs.lemmas.Bool.{eqb-true}
use mathlib.Core.Path.{fun_ext}
use Rattle.lot_core.specs.Model.{put}
use Rattle.lot_core.specs.State.{owns}
use Rattle.lot_rights.proofs.Puts.{put_elim}

pub owner_has : (o : Option ℕ) (t : ℕ) → o ≡ Some t → owns o t ≡ true
owner_has o t own = ap (λ z. owns z t) own ∙ eq-eqb t t refl

pub owner_is : (o : Option ℕ) (t : ℕ) → owns o t ≡ true → o ≡ Some t
owner_is None t has = absurd (cc)
owner_is (Some v) t has = ap Some (sym (eqb-true t v has))

pub owned : (o : Option ℕ) → o ≢ None → is_some o ≡ true
owned None ne = absurd (ne refl)
owned (Some t) ne = refl

pub unowned : (o : Option ℕ) → is_some o ≡ false → o ≡ None
unowned None e = refl
unowned (Some t) e = absurd (let f : true ≡ false = e in cc)

pub owner_cases : (o : Option ℕ) → (o ≡ None) ⊎ (o ≢ None)
owner_cases None = inl refl
owner_cases (Some t) = inr (λ e. cc)

-- who gets the lock that nobody has
pub owns_got : (o : Option ℕ) (t : ℕ) → o ≡ None → owns (Some t) ≡ put (owns o) t true
owns_got o t none =
    fun_ext (λ v. put_elim (λ b. (v == t) ≡ b) (owns o) t true v (λ e. eq-eqb v t e)
    (λ ne. ne_eqb v t ne ∙ sym (ap (λ z. owns z v) none)))
