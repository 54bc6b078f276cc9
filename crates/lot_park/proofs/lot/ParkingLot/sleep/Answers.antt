use Rattle.std.proofs.Common.{rules, suc}
use Rattle.lot_park.proofs.lot.ParkingLot.sleep.Goals as goal

pub loop-preserved : goal.loop-preserved
loop-preserved g c =
    let vain = rw c.in_default.is at c.collect-back.ensures.looked in
    (suc c.loop.invariant.0, (c.loop.pass, c.loop.invariant.1, vain))

pub returns-in-Some-letter : goal.returns-in-Some-letter
returns-in-Some-letter g c = search rules
