use Rattle.std.proofs.Common.{arith, get_or}
use Rattle.lot_places.proofs.Spacing.{spaced_from_even}
use Rattle.lot_places.proofs.keys.spacing.Goals as goal

pub returns : goal.returns
returns c =
    spaced_from_even (get_or c.args.keys.now 0 0) c.in_ok-step.step c.args.keys.now (λ j lt. c.loop-place.invariant j (omega arith))
