use Rattle.std.proofs.Common.{rules}
use Rattle.lot_park.proofs.lot.ParkingLot.park_acting.Goals as goal

pub act-x-requires : goal.act-x-requires
act-x-requires g c =
    let (bucket, left, ready, place, v) = c.queue_up-x.ensures in
    c.requires.acts v.by.root (c.queue_up-x.result.0, c.queue_up-x.result.1, v.back, c.queue_up-x.result.2) v.by.from.named
    v.by.from.paid v.by.called
    (search rules) c.queue_up-x.result.3

pub returns : goal.returns
returns g c = search rules
