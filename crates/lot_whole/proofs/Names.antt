-- Roots of one kind, and whom they name after a step.
use Rattle.std.proofs.Common.{◌≡◌, ℕ, ◌⊎◌, refl, subst, inl, inr, ⊎_elim}
use Rattle.lot_rights.specs.Rule.{Meaning}
use Rattle.lot_rights.specs.Shown.{PassShown, RootShown}
use Rattle.lot_rights.specs.Layout.{word_at}
use Rattle.lot_rights.specs.Steps.{AllowsPass, AllowsBoth}
use Rattle.lot_rights.proofs.Places.{both_at_place, pass_at_word}
use Rattle.lot_words.specs.declared.views.LockRootView.{LockRootView}
use Rattle.lot_words.specs.CallersRule.{CallersRule}
use Rattle.lot_words.specs.Rule.{names as lock_names}
use Rattle.lot_conds.specs.declared.views.CondRootView.{CondRootView}
use Rattle.lot_sems.specs.declared.views.SemRootView.{SemRootView}
use Rattle.lot_sems.specs.Rule.{names as sem_names}
use Rattle.lot_whole.specs.declared.views.LotRootView.{LotRootView}
use Rattle.lot_whole.specs.declared.views.LotRootView.TheVariants.{Lock, Cond, Sem}
use Rattle.lot_whole.specs.declared.views.LotPassView.{LotPassView}
use Rattle.lot_whole.specs.Family.{Which, lock, cond, sem, IsKeyIn}
use Rattle.lot_whole.specs.Lot.{names}
use Rattle.lot_whole.specs.Lifts.{whole_root}
use Rattle.lot_whole.specs.Standing.{IsLockRoot, IsCondRoot, IsSemRoot, as_lock, as_cond, as_sem}
use Rattle.lot_whole.specs.Calls.{lock_of, cond_of, sem_of}
use Rattle.lot_whole.specs.Shown.{LotWordsShown, lot_of}

lock_is : (o : LotRootView) → IsLockRoot o → Lock (as_lock o) ≡ o
lock_is (Lock q) is = refl
lock_is (Cond q) is = absurd is
lock_is (Sem q) is = absurd is

cond_is : (o : LotRootView) → IsCondRoot o → Cond (as_cond o) ≡ o
cond_is (Lock q) is = absurd is
cond_is (Cond q) is = refl
cond_is (Sem q) is = absurd is

sem_is : (o : LotRootView) → IsSemRoot o → Sem (as_sem o) ≡ o
sem_is (Lock q) is = absurd is
sem_is (Cond q) is = absurd is
sem_is (Sem q) is = refl

-- a root of the kind is the one that the kind sees
pub lock_root : (q : RootShown LotRootView) → IsLockRoot q.own → whole_root lock (lock_of q) ≡ q
lock_root q is = λ i. record q { own = lock_is q.own is i }

pub cond_root : (q : RootShown LotRootView) → IsCondRoot q.own → whole_root cond (cond_of q) ≡ q
cond_root q is = λ i. record q { own = cond_is q.own is i }

pub sem_root : (q : RootShown LotRootView) → IsSemRoot q.own → whole_root sem (sem_of q) ≡ q
sem_root q is = λ i. record q { own = sem_is q.own is i }

-- a call's step at the word of a key of the kind is allowed, if it is so whatever the lot's numbers and values are
pub at_word_of : {V Part : Type 0} (rule : CallersRule V Part) (j : Which) {z shown : LotWordsShown V} → z ≡ shown → {k place : ℕ}
    → IsKeyIn shown.size j k → place ≡ word_at k → (f : ℕ → ℕ) (p : PassShown (LotPassView V))
    (then : ℕ → PassShown (LotPassView V) → Type 0)
    → ((y : LotWordsShown V) → IsKeyIn y.size j k → AllowsPass (lot_of rule y) (word_at k) f p then)
    → AllowsPass (lot_of rule z) place f p then
at_word_of rule j is {k} here at = pass_at_word (lot_of rule) is (λ z. IsKeyIn z.size j k) here (word_at k) at

-- what is allowed with a root of the kind, as the kind sees it, is allowed with it at the place of its word
pub both_of_kind : {S P : Type 0} (k : Meaning S P LotRootView) {i place : ℕ} → place ≡ i → (f : ℕ → ℕ) (p : PassShown P)
    {r q : RootShown LotRootView} → r ≡ q → (then : ℕ → PassShown P → RootShown LotRootView → Type 0)
    → AllowsBoth k i f p r then → AllowsBoth k place f p q then
both_of_kind k {i} is f p {q = q} e then allows = both_at_place k i _ is f p q then (subst (λ z. AllowsBoth k i f p z then) e allows)

-- whom it names then: those whom the kind says that it named, and maybe one more
module _ (q q' : RootShown LotRootView) (u : ℕ) (More : Type 0) where
  pub lock_named : IsLockRoot q.own → (r : RootShown LockRootView) → q' ≡ whole_root lock r
      → (lock_names r.own u → lock_names (as_lock q.own) u ⊎ More) → names q'.own u → names q.own u ⊎ More
  lock_named is r e kind h = ⊎_elim {C = names q.own u ⊎ More} (λ a. inl (subst (λ o. names o u) (lock_is q.own is) a)) inr
      (kind (subst (λ (z : RootShown LotRootView). names z.own u) e h))

  pub cond_named : IsCondRoot q.own → (r : RootShown CondRootView) → q' ≡ whole_root cond r
      → (names (Cond r.own) u → names (Cond (as_cond q.own)) u ⊎ More) → names q'.own u → names q.own u ⊎ More
  cond_named is r e kind h = ⊎_elim {C = names q.own u ⊎ More} (λ a. inl (subst (λ o. names o u) (cond_is q.own is) a)) inr
      (kind (subst (λ (z : RootShown LotRootView). names z.own u) e h))

  pub sem_named : IsSemRoot q.own → (r : RootShown SemRootView) → q' ≡ whole_root sem r
      → (sem_names r.own u → sem_names (as_sem q.own) u ⊎ More) → names q'.own u → names q.own u ⊎ More
  sem_named is r e kind h = ⊎_elim {C = names q.own u ⊎ More} (λ a. inl (subst (λ o. names o u) (sem_is q.own is) a)) inr
      (kind (subst (λ (z : RootShown LotRootView). names z.own u) e h))

-- or none more
pub no_more : (A : Type 0) → A ⊎ ⊥ → A
no_more A (inl a) = a
no_more A (inr none) = absurd none
