use Rattle.std.proofs.Common.{◌≡◌, ℕ, ◌<◌, List, length, slice_get, Some, ⊎_elim, arith}
use Rattle.std.proofs.lemmas.Option.{slice_get_within, slice_get_cases}
use Rattle.lot_trials.proofs.contention.close_told.Goals as goal

there : {A : Type 0} (xs : List A) (i : ℕ) → i < length xs → (x : A) × (slice_get xs i ≡ Some x)
there {A} xs i near = ⊎_elim {C = (x : A) × (slice_get xs i ≡ Some x)} (λ is. (is.0, is.2)) (λ past. absurd (omega (arith, near, past.0)))
    (slice_get_cases xs i).1

pub returns-clause-told : goal.returns-clause-told
returns-clause-told g c =
    let counted = c.close_counted-counts.ensures.counted in (
      counted.0,
      λ key x at.
          let near = slice_get_within c.close_counted-counts.result.2.items key x at in
          let root = there counted.0.roots key (omega (arith, near, counted.1.each)) in
          let tells = counted.1.tell key x root.0 at root.1 in
          (tells.parked_are, tells.taken_are),
    )
