use Rattle.std.proofs.Common.{◌≡◌, ℕ, List, sym, arith, subst}
use Rattle.std.specs.Prelude.{IfErr, Ok, Err, Some}
use Rattle.lot_core.specs.Reading.{field_at, ReadsNumbers}
use Rattle.lot_events.proofs.Figures.{field_takes}
use Rattle.lot_core.proofs.Openings.{numbers_push, number_shorter, first_number}
use Rattle.lot_core.proofs.script.numbers.Goals as goal

pub overflow_cast-number : goal.overflow_cast-number
overflow_cast-number c = omega (arith, (field_takes _ _ _ (sym c.in-Some.ensures)).0)

pub loop-number-smaller : goal.loop-number-smaller
loop-number-smaller c = number_shorter _ _ _ (sym c.in-Some.ensures)

pub loop-number-preserved : goal.loop-number-preserved
loop-number-preserved c =
    subst (λ ns. ReadsNumbers c.args.text.now ns c.in-Some.behind.now) (sym (c.in_ok-push.ensures {u = tt}).items)
    (numbers_push _ _ _ _ _ c.loop-number.invariant (sym c.in-Some.ensures))

pub returns-in_err-push-clause-some : goal.returns-in_err-push-clause-some
returns-in_err-push-clause-some c =
    let found = first_number _ _ _ _ _ c.loop-number.invariant (sym c.in-Some.ensures) in
    elim c.from_residual.result as (λ r. IfErr r (λ e. (n : ℕ) × (rest : List ℕ) × (field_at c.args.text.now ≡ Some (n, rest)))) [
      | Ok x ↦ tt
      | Err e ↦ found
    ]
