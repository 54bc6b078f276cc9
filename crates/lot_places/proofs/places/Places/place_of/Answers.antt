use Rattle.lot_places.specs.Places.{keys_of}
use Rattle.lot_places.proofs.Slots.{found_place}
use Rattle.lot_places.proofs.places.Places.place_of.Goals as goal

pub returns : goal.returns
returns g c =
    rw (← c.self.view_is)
    (found_place c.args.key (keys_of c.self.inside.keys) c.self.inside.slots.items c.place_of.result c.self.invariant.0 c.place_of.ensures)
