use Rattle.std.proofs.Common.{arith}
use Rattle.lot_places.specs.Places.{keys_of}
use Rattle.lot_places.proofs.Slots.{new_slots}
use Rattle.lot_places.proofs.places.Places.empty.Goals as goal

pub invariant_of-result : goal.invariant_of-result
invariant_of-result g c =
    let made =
    new_slots g.row.R.Denot (keys_of c.args.keys) c.loop-place.slots.items c.loop-place._place c.loop-place.invariant.made
    (omega (arith, c.len-count.ensures, c.loop-place.auto._place-end, c.loop-place-test.false)) in (made.all, made.first)

pub returns : goal.returns
returns g c =
    (new_slots g.row.R.Denot (keys_of c.args.keys) c.loop-place.slots.items c.loop-place._place c.loop-place.invariant.made
    (omega (arith, c.len-count.ensures, c.loop-place.auto._place-end, c.loop-place-test.false))).seen
