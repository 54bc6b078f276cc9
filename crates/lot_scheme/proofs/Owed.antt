-- The letters that a root owes, as the parking lot sees them: which one is posted, and what is left then.
use Rattle.std.proofs.Common.{◌≡◌, ℕ, ◌<◌, zero, suc, ◌==◌, ◌&&◌, cond, Bool, true, false, List, [], ◌∷◌, Option, Some, None, refl}
use Rattle.std.proofs.Common.{sym, ap, subst, ◌∙◌, arith}
use Rattle.std.specs.List.{Contains}
use Rattle.lot_rights.specs.Shown.{RootShown}
use Rattle.lot_rights.specs.Lines.{without}
use Rattle.lot_rights.specs.Steps.{RootNotes}
use Rattle.lot_rights.specs.declared.views.Access.{Access}
use Rattle.lot_park.specs.Parking.{debt, debts, without_debt}
use Rattle.lot_park.proofs.Debts.{owed_none, owed_alone, without_first_debt}
use Rattle.lot_whole.specs.declared.views.LotRootView.{LotRootView}
use Rattle.lot_whole.specs.declared.views.LotRootView.TheVariants.{Lock, Cond, Sem}
use Rattle.lot_whole.specs.Standing.{IsLockRoot}
use Rattle.lot_whole.specs.Calls.{OwesLetter, paid}
use Rattle.lot_scheme.specs.Roots.{IsInItsKind, debts_of, owes_in, root_view}

-- ---- a root's number tells its kind
pub is_lock : (locks first_sem c : ℕ) (q : LotRootView) → IsInItsKind locks first_sem c q → c < locks → IsLockRoot q
is_lock locks first_sem c (Lock q) kind below = tt
is_lock locks first_sem c (Cond q) kind below = absurd (omega (arith, kind.0))
is_lock locks first_sem c (Sem q) kind below = absurd (omega (arith, kind.0))

-- ---- conditions: a letter that is owed has token 0, and is owed to a thread that the root names
owed_in : (thread token : ℕ) (xs : List ℕ) → Contains (debts xs) (thread, token) → Contains xs thread × (token ≡ 0)
owed_in thread token [] has = absurd (owed_none thread token has)
owed_in thread token (x ∷ xs) (zero, within, is) = ((zero, omega arith, ap (λ (d : ℕ × ℕ). d.0) is), sym (ap (λ (d : ℕ × ℕ). d.1) is))
owed_in thread token (x ∷ xs) (suc i, within, is) =
    let rest = owed_in thread token xs (i, omega arith, is) in
    ((suc rest.0.0, omega (arith, rest.0.1), rest.0.2), rest.1)

left_or : (b : Bool) (x : ℕ) (xs ys : List ℕ) (ds : List (ℕ × ℕ)) → ds ≡ debts ys
    → cond (b && true) (debts xs) ((x, 0) ∷ ds) ≡ debts (cond b xs (x ∷ ys))
left_or true x xs ys ds e = refl
left_or false x xs ys ds e = ap (λ (z : List (ℕ × ℕ)). (x, 0) ∷ z) e

posted_in : (thread : ℕ) (xs : List ℕ) → without_debt thread 0 (debts xs) ≡ debts (without thread xs)
posted_in thread [] = refl
posted_in thread (x ∷ xs) = left_or (x == thread) x xs (without thread xs) (without_debt thread 0 (debts xs)) (posted_in thread xs)

-- ---- semaphores: the same of the one letter that is owed
owed_by : (owes : Option ℕ) (thread token : ℕ) → Contains (debt owes 0) (thread, token) → (owes ≡ Some thread) × (token ≡ 0)
owed_by None thread token has = absurd (owed_none thread token has)
owed_by (Some u) thread token has =
    let e : (u, 0) ≡ (thread, token) = owed_alone (u, 0) thread token has in
    (ap (λ (d : ℕ × ℕ). Some d.0) e, sym (ap (λ (d : ℕ × ℕ). d.1) e))

owed_of : (owes : Option (ℕ × ℕ)) (thread token : ℕ) → Contains (debts_of owes) (thread, token) → owes ≡ Some (thread, token)
owed_of None thread token has = absurd (owed_none thread token has)
owed_of (Some d) thread token has = ap (λ (e : ℕ × ℕ). Some e) (owed_alone d thread token has)

-- ---- keys of all kinds
pub owed_letter : (q : LotRootView) (thread token : ℕ) → Contains (owes_in q) (thread, token) → OwesLetter q thread token
owed_letter (Lock q) thread token has = owed_of q.owes thread token has
owed_letter (Cond q) thread token has = owed_in thread token q.owes has
owed_letter (Sem q) thread token has = owed_by q.owes thread token has

-- what is left when the letter was posted
pub left_owing : (q : LotRootView) (thread token : ℕ) → Contains (owes_in q) (thread, token)
    → owes_in (paid q thread) ≡ without_debt thread token (owes_in q)
left_owing (Lock q) thread token has =
    sym (ap (λ (o : Option (ℕ × ℕ)). without_debt thread token (debts_of o)) (owed_of q.owes thread token has)
    ∙ without_first_debt thread token [])
left_owing (Cond q) thread token has =
    subst (λ k. debts (without thread q.owes) ≡ without_debt thread k (debts q.owes)) (sym (owed_in thread token q.owes has).1)
    (sym (posted_in thread q.owes))
left_owing (Sem q) thread token has =
    let one = owed_by q.owes thread token has in
    sym (ap (λ (o : Option ℕ). without_debt thread token (debt o 0)) one.0
    ∙ (ap (λ k. without_debt thread k ((thread, 0) ∷ [])) one.1 ∙ without_first_debt thread 0 []))

-- ---- the root after the entry
pub owes_after : (p q : RootShown LotRootView) (thread token : ℕ) (a : Access) → RootNotes p (paid p.own thread) a q
    → Contains (root_view p).owes (thread, token) → (root_view q).owes ≡ without_debt thread token (root_view p).owes
owes_after p q thread token a notes has =
    ap (λ (r : RootShown LotRootView). owes_in r.own) notes.1 ∙ left_owing p.own thread token has
