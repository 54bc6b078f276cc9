-- Lines of threads, in which each stands once.
use Rattle.std.proofs.Common.{◌≡◌, ◌≢◌, ℕ, zero, suc, ◌⊎◌, cond, List, [], ◌∷◌, ◌++◌, length, refl, sym, ap, subst, ◌∙◌, inl, inr}
use Rattle.std.proofs.Common.{⊎_elim, arith}
use Rattle.std.specs.List.{Contains}
use Rattle.std.proofs.lemmas.List.Elements.{Contains-append_left, Contains-append_right, Contains-append_cases, Contains-push_cases}
use Rattle.std.proofs.lemmas.List.Elements.{Contains-get_or}
use Rattle.std.proofs.lemmas.List.Kept.{AllPairs-cons}
use mathlib.Core.Logic.{dite}
use native.Mathlib.Decide.{ℕ_discrete}
use Rattle.lot_core.specs.Sound.{IsOnce}
use Rattle.lot_core.proofs.Members.{in_head, in_tail, in_none, once_tail, head_left, once_none}
use Rattle.lot_rights.specs.Lines.{without}
use Rattle.lot_rights.proofs.Puts.{by_test}

pub in_cases : (u : ℕ) (rest : List ℕ) (t : ℕ) → Contains (u ∷ rest) t → (u ≡ t) ⊎ Contains rest t
in_cases u rest t (zero, within, is) = inl is
in_cases u rest t (suc k, within, is) = inr (k, omega arith, is)

pub in_or_not : (xs : List ℕ) (t : ℕ) → Contains xs t ⊎ (¬ Contains xs t)
in_or_not [] t = inr (in_none t)
in_or_not (x ∷ xs) t = dite (ℕ_discrete x t) (λ e. inl (subst (Contains (x ∷ xs)) e (in_head x xs)))
    (λ ne. ⊎_elim {C = Contains (x ∷ xs) t ⊎ (¬ Contains (x ∷ xs) t)} (λ i. inl (in_tail x xs t i))
    (λ out. inr (λ h. ⊎_elim {C = ⊥} ne out (in_cases x xs t h))) (in_or_not xs t))

pub once_cons : (x : ℕ) (xs : List ℕ) → (¬ Contains xs x) → IsOnce xs → IsOnce (x ∷ xs)
once_cons x xs out h =
    AllPairs-cons (λ t u. t ≢ u) x xs (λ k d within e. out (subst (Contains xs) (sym e) (Contains-get_or xs k d within))) h

-- ---- two lines, one after the other
pub once_front : (xs ys : List ℕ) → IsOnce (xs ++ ys) → IsOnce xs
once_front [] ys a = once_none
once_front (x ∷ xs) ys a =
    once_cons x xs (λ h. head_left x (xs ++ ys) a (Contains-append_left xs ys x h)) (once_front xs ys (once_tail x (xs ++ ys) a))

pub once_back : (xs ys : List ℕ) → IsOnce (xs ++ ys) → IsOnce ys
once_back [] ys a = a
once_back (x ∷ xs) ys a = once_back xs ys (once_tail x (xs ++ ys) a)

pub once_between : (t : ℕ) (xs ys : List ℕ) → IsOnce (xs ++ ys) → Contains xs t → ¬ Contains ys t
once_between t [] ys a h i = in_none t h
once_between t (x ∷ xs) ys a h i = ⊎_elim {C = ⊥}
    (λ e. head_left x (xs ++ ys) a (Contains-append_right xs ys x (subst (Contains ys) (sym e) i)))
    (λ j. once_between t xs ys (once_tail x (xs ++ ys) a) j i) (in_cases x xs t h)

pub once_joined : (xs ys : List ℕ) → IsOnce xs → IsOnce ys → ((t : ℕ) → Contains xs t → ¬ Contains ys t) → IsOnce (xs ++ ys)
once_joined [] ys a b c = b
once_joined (x ∷ xs) ys a b c = once_cons x (xs ++ ys)
    (λ h. ⊎_elim {C = ⊥} (head_left x xs a) (c x (in_head x xs)) (Contains-append_cases xs ys x h))
    (once_joined xs ys (once_tail x xs a) b (λ t i. c t (in_tail x xs t i)))

-- who is in the line or named besides, after t came to the line
pub named_queued : (line : List ℕ) (t u : ℕ) (Besides : Type 0) → Contains (line ++ t ∷ []) u ⊎ Besides
    → (Contains line u ⊎ Besides) ⊎ (u ≡ t)
named_queued line t u Besides = ⊎_elim {C = (Contains line u ⊎ Besides) ⊎ (u ≡ t)}
    (λ i. ⊎_elim {C = (Contains line u ⊎ Besides) ⊎ (u ≡ t)} (λ a. inl (inl a)) (λ a. inr (sym a)) (Contains-push_cases line t u i))
    (λ d. inl (inr d))

-- ---- the line without one of it
pub in_without : (t u : ℕ) (xs : List ℕ) → t ≢ u → Contains xs t → Contains (without u xs) t
in_without t u [] ne h = h
in_without t u (x ∷ xs) ne h = by_test (λ b. Contains (cond b xs (x ∷ without u xs)) t) x u
    (λ e. ⊎_elim {C = Contains xs t} (λ f. absurd (ne (sym f ∙ e))) (λ i. i) (in_cases x xs t h))
    (λ _. ⊎_elim {C = Contains (x ∷ without u xs) t} (λ f. subst (Contains (x ∷ without u xs)) f (in_head x (without u xs)))
    (λ i. in_tail x (without u xs) t (in_without t u xs ne i))
    (in_cases x xs t h))

pub without_in : (t u : ℕ) (xs : List ℕ) → Contains (without u xs) t → Contains xs t
without_in t u [] = λ h. h
without_in t u (x ∷ xs) = by_test (λ b. Contains (cond b xs (x ∷ without u xs)) t → Contains (x ∷ xs) t) x u
    (λ _ h. in_tail x xs t h)
    (λ _ h. ⊎_elim {C = Contains (x ∷ xs) t} (λ f. subst (Contains (x ∷ xs)) f (in_head x xs)) (λ i. in_tail x xs t (without_in t u xs i))
    (in_cases x (without u xs) t h))

pub without_none : (u : ℕ) (xs : List ℕ) → IsOnce xs → ¬ Contains (without u xs) u
without_none u [] a = in_none u
without_none u (x ∷ xs) a = by_test (λ b. ¬ Contains (cond b xs (x ∷ without u xs)) u) x u
    (λ e h. head_left x xs a (subst (Contains xs) (sym e) h))
    (λ ne h. ⊎_elim {C = ⊥} ne (without_none u xs (once_tail x xs a)) (in_cases x (without u xs) u h))

pub without_once : (u : ℕ) (xs : List ℕ) → IsOnce xs → IsOnce (without u xs)
without_once u [] a = a
without_once u (x ∷ xs) a = by_test (λ b. IsOnce (cond b xs (x ∷ without u xs))) x u
    (λ _. once_tail x xs a)
    (λ _. once_cons x (without u xs) (λ h. head_left x xs a (without_in x u xs h)) (without_once u xs (once_tail x xs a)))

-- who stands in a line to which t was added, beside t
pub in_init : (v : ℕ) (xs : List ℕ) (t : ℕ) → v ≢ t → Contains (xs ++ t ∷ []) v → Contains xs v
in_init v xs t ne h = ⊎_elim {C = Contains xs v} (λ i. i) (λ e. absurd (ne (sym e))) (Contains-push_cases xs t v h)

-- who is taken out is in the line no more
pub one_less : (t : ℕ) (xs : List ℕ) → Contains xs t → suc (length (without t xs)) ≡ length xs
one_less t [] has = absurd (in_none t has)
one_less t (x ∷ xs) has = by_test (λ b. suc (length (cond b xs (x ∷ without t xs))) ≡ suc (length xs)) x t
    (λ _. refl)
    (λ ne. ap suc (one_less t xs (⊎_elim {C = Contains xs t} (λ e. absurd (ne e)) (λ i. i) (in_cases x xs t has))))
