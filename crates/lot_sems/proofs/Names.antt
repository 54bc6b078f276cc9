-- Whom a root names after a step: those whom it named, and the thread of the pass.
use Rattle.std.proofs.Common.{◌≡◌, ℕ, ◌⊎◌, Bool, true, false, List, [], ◌∷◌, refl, sym, subst, inl, ⊎_elim}
use Rattle.std.specs.List.{Contains}
use Rattle.lot_core.proofs.Members.{in_head, in_tail}
use Rattle.lot_rights.proofs.Lines.{named_queued}
use Rattle.lot_sems.specs.declared.views.SemRootView.{SemRootView}
use Rattle.lot_sems.specs.Rule.{names}
use Rattle.lot_sems.specs.Calls.{parked_root, passed_root, paid_root}
use Rattle.lot_sems.proofs.Machine.{no_some, same_some}

pub park_names : (q q' : SemRootView) (t u : ℕ) (queued : Bool) → q' ≡ parked_root q t queued → names q' u → names q u ⊎ (u ≡ t)
park_names q q' t u true e h = named_queued q.line t u _ (subst (λ z. names z u) e h)
park_names q q' t u false e h = inl (subst (λ z. names z u) e h)

passed_names : (q : SemRootView) (line : List ℕ) → q.line ≡ line → (u : ℕ) → names (passed_root q line) u → names q u
passed_names q [] is u h = h
passed_names q (v ∷ vs) is u h = ⊎_elim {C = names q u} (λ i. inl (subst (λ z. Contains z u) (sym is) (in_tail v vs u i)))
    (λ d. inl (subst (λ z. Contains z u) (sym is) (subst (Contains (v ∷ vs)) (same_some v u d) (in_head v vs)))) h

pub pass_names : (q q' : SemRootView) (u : ℕ) → q' ≡ passed_root q q.line → names q' u → names q u
pass_names q q' u e h = passed_names q q.line refl u (subst (λ z. names z u) e h)

pub post_names : (q q' : SemRootView) (u : ℕ) → q' ≡ paid_root q → names q' u → names q u
post_names q q' u e h = ⊎_elim {C = names q u} inl (λ d. absurd (no_some u d)) (subst (λ z. names z u) e h)
