use Rattle.std.proofs.Common.{rules}
use Rattle.gallery.proofs.latch.Place.arrive.Goals as goal

pub returns-clause-arrives : goal.returns-clause-arrives
returns-clause-arrives g c =
    let (v, w, post, region, made) = c.change.ensures.visits in
    (v.now, w.now, search rules, region.seen)
