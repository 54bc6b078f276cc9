use Rattle.std.proofs.Common.{arith, inr}
use Rattle.lot_load.proofs.Classes.{one_bit_less}
use Rattle.lot_load.proofs.measure.times.class_of.Goals as goal

pub loop-rest-preserved : goal.loop-rest-preserved
loop-rest-preserved c =
    let kept = one_bit_less c.loop-rest.bits c.loop-rest.rest c.args.nanos c.loop-rest.invariant.least c.loop-rest.invariant.below in
    record { least = kept.0; below = kept.1; highest = inr (omega arith) }
