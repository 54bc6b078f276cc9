-- Whom a root names after a step: those whom it named, and the thread of the pass.
use Rattle.std.proofs.Common.{◌≡◌, ℕ, ◌⊎◌, Bool, true, false, List, [], ◌∷◌, refl, sym, subst, inl, ⊎_elim, None}
use Rattle.std.specs.List.{Contains}
use Rattle.lot_core.proofs.Members.{in_head, in_tail}
use Rattle.lot_rights.proofs.Lines.{named_queued}
use Rattle.lot_words.specs.declared.views.LockRootView.{LockRootView}
use Rattle.lot_words.specs.Rule.{names}
use Rattle.lot_words.specs.Calls.{parked_root, passed_root, paid_root, token_of}
use Rattle.lot_words.proofs.Machine.{no_debt, same_debt}

pub park_names : (q q' : LockRootView) (t u : ℕ) (queued : Bool) → q' ≡ parked_root q t queued → names q' u → names q u ⊎ (u ≡ t)
park_names q q' t u true e h = named_queued q.line t u _ (subst (λ z. names z u) e h)
park_names q q' t u false e h = inl (subst (λ z. names z u) e h)

passed_names : (q : LockRootView) (fair : Bool) (line : List ℕ) → q.line ≡ line → (u : ℕ) → names (passed_root q fair line) u → names q u
passed_names q fair [] is u h = h
passed_names q fair (v ∷ vs) is u h = ⊎_elim {C = names q u} (λ i. inl (subst (λ z. Contains z u) (sym is) (in_tail v vs u i)))
    (λ d. inl (subst (λ z. Contains z u) (sym is) (subst (Contains (v ∷ vs)) (same_debt v (token_of fair) u d.0 d.1).0 (in_head v vs)))) h

pub pass_names : (q q' : LockRootView) (fair : Bool) (u : ℕ) → q' ≡ passed_root q fair q.line → names q' u → names q u
pass_names q q' fair u e h = passed_names q fair q.line refl u (subst (λ z. names z u) e h)

pub post_names : (q q' : LockRootView) (u : ℕ) → q' ≡ paid_root q → names q' u → names q u
post_names q q' u e h = ⊎_elim {C = names q u} inl (λ d. absurd (no_debt None (u, d.0) refl d.1)) (subst (λ z. names z u) e h)
