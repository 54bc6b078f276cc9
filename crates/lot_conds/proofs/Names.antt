-- Whom a root names after a step: those whom it named, and the thread of the pass.
use Rattle.std.proofs.Common.{◌≡◌, ℕ, ◌⊎◌, take, drop, subst, inl, inr, ⊎_elim}
use Rattle.std.specs.List.{Contains}
use Rattle.std.proofs.lemmas.List.{take-append-drop}
use Rattle.std.proofs.lemmas.List.Elements.{Contains-append_left, Contains-append_cases}
use Rattle.lot_core.proofs.Members.{in_none, in_drop}
use Rattle.lot_rights.proofs.Lines.{without_in, named_queued}
use Rattle.lot_conds.specs.declared.views.CondRootView.{CondRootView}
use Rattle.lot_conds.specs.Calls.{enlisted_root, called_root, swept_root, paid_root}

abbrev Named : CondRootView → ℕ → Type 0
Named q u = Contains q.line u ⊎ Contains q.owes u

pub enlist_names : (q q' : CondRootView) (t u : ℕ) → q' ≡ enlisted_root q t → Named q' u → Named q u ⊎ (u ≡ t)
enlist_names q q' t u e h = named_queued q.line t u (Contains q.owes u) (subst (λ z. Named z u) e h)

pub call_names : (q q' : CondRootView) (n u : ℕ) → q' ≡ called_root q n → Named q' u → Named q u
call_names q q' n u e h = ⊎_elim {C = Named q u} (λ i. inl (in_drop n q.line u i))
    (λ i.
    ⊎_elim {C = Named q u} inr
    (λ a. inl (subst (λ z. Contains z u) (take-append-drop n q.line) (Contains-append_left (take n q.line) (drop n q.line) u a)))
    (Contains-append_cases q.owes (take n q.line) u i)) (subst (λ z. Named z u) e h)

pub sweep_names : (q q' : CondRootView) (u : ℕ) → q' ≡ swept_root q → Named q' u → Named q u
sweep_names q q' u e h = ⊎_elim {C = Named q u} (λ i. absurd (in_none u i))
    (λ i. ⊎_elim {C = Named q u} inr inl (Contains-append_cases q.owes q.line u i)) (subst (λ z. Named z u) e h)

pub post_names : (q q' : CondRootView) (t u : ℕ) → q' ≡ paid_root q t → Named q' u → Named q u
post_names q q' t u e h = ⊎_elim {C = Named q u} inl (λ i. inr (without_in u t q.owes i)) (subst (λ z. Named z u) e h)
