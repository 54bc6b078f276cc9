-- Where all threads are calm and none has a lock, nobody waits.
use Rattle.std.proofs.Common.{◌≡◌, ℕ, true, false, List, [], refl, sym, subst, ◌∙◌, inl, inr}
use Rattle.std.specs.List.{Contains}
use Rattle.lot_events.specs.declared.events.Point.TheVariants.{Calm, Wants, Bed, Rest, Seeks}
use Rattle.lot_core.specs.Model.{StateView}
use Rattle.lot_core.specs.Sound.{IsSound}
use Rattle.lot_core.proofs.Members.{in_head}
use Rattle.lot_core.proofs.Put.{by_bit, by_line}
use Rattle.lot_whole.specs.Closing.{IsQuiet}

-- a line in which nobody stands is empty
nobody_in : (line : List ℕ) → ((t : ℕ) → Contains line t → ⊥) → line ≡ []
nobody_in line none =
    by_line (λ xs. line ≡ xs → xs ≡ []) line (λ _ _. refl)
    (λ u rest is _. absurd (none u (subst (λ xs. Contains xs u) (sym is) (in_head u rest)))) refl

pub quiet_of : (s : StateView) → IsSound s → ((t : ℕ) → s.point t ≡ Calm) → ((l t : ℕ) → s.locks.has l t ≡ true → ⊥) → IsQuiet s
quiet_of s sound calm none = record {
  calm = calm;
  unheld = λ l. by_bit (λ b. s.locks.held l ≡ b → b ≡ false) (s.locks.held l)
      (λ _ held. let owner = (sound.one_owner.some l).0 held in absurd (none l owner.0 owner.1)) (λ _ _. refl) refl;
  lock_lines = λ l. nobody_in (s.locks.line l)
      (λ t inside. let e : Calm ≡ Wants l = sym (calm t) ∙ (sound.one_line_each.wants l t inside).1 in cc);
  cond_lines = λ c. nobody_in (s.conds.line c) (λ t inside. elim (sound.one_line_each.waits c t inside).1.1 [
    | inl bed ↦ let e : Calm ≡ Bed c (sound.one_line_each.waits c t inside).1.0 = sym (calm t) ∙ bed in cc
    | inr rest ↦ let e : Calm ≡ Rest c (sound.one_line_each.waits c t inside).1.0 = sym (calm t) ∙ rest in cc
  ]);
  sem_lines = λ k. nobody_in (s.sems.line k)
      (λ t inside. let e : Calm ≡ Seeks k = sym (calm t) ∙ (sound.one_line_each.seeks k t inside).1 in cc);
}
