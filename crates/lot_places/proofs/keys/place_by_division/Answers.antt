use Rattle.std.proofs.Common.{◌∙◌, arith}
use Rattle.lot_places.proofs.Spacing.{quotient, divided_first, divided_missing, below_missing}
use Rattle.lot_places.proofs.keys.place_by_division.Goals as goal
use Rattle.lot_places.proofs.keys.place_by_division.Goals.{else-place-count-via-then-place-count+else-place-step}
use Rattle.lot_places.proofs.keys.place_by_division.Goals.{else-place-count-via-else-place-count}

pub returns-in_err-distance : goal.returns-in_err-distance
returns-in_err-distance c =
    rw c.from_residual.ensures (below_missing c.args.first c.args.step c.args.count c.args.key (λ le. c.in_err-distance.ensures le))

pub returns-then-place-step : goal.returns-then-place-step
returns-then-place-step c =
    divided_first c.args.first c.args.step c.args.count c.args.key c.in_ok-distance.distance c.unwrap_or-place.result
    (c.unwrap_or-place.ensures ∙ quotient c.in_ok-distance.distance c.args.step c.checked_div.result c.checked_div.ensures)
    c.in_ok-distance.ensures c.if-place-count.true c.if-place-step.true

pub returns-else-place-count : goal.returns-else-place-count
returns-else-place-count c =
    divided_missing c.args.first c.args.step c.args.count c.args.key c.in_ok-distance.distance c.unwrap_or-place.result
    (c.unwrap_or-place.ensures ∙ quotient c.in_ok-distance.distance c.args.step c.checked_div.result c.checked_div.ensures)
    c.in_ok-distance.ensures
    (λ lt. elim c.else-place-count.branch [
      | else-place-count-via-then-place-count+else-place-step w ↦ w.if-place-step.false
      | else-place-count-via-else-place-count w ↦ absurd (omega (arith, w.if-place-count.false, lt))
    ])
