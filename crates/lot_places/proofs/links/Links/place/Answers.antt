use Rattle.std.proofs.Common.{arith}
use Rattle.lot_places.proofs.Steps.{found}
use Rattle.lot_places.proofs.links.Links.place.Goals as goal

pub index-requires : goal.index-requires
index-requires c =
    let there = found c.self.inside c.args.self.now c.args.cursor (c.self.invariant, c.self.view_is) c.requires.stands c.requires.more in
    omega (arith, there.bound)

pub returns-clause-used : goal.returns-clause-used
returns-clause-used c =
    let there = found c.self.inside c.args.self.now c.args.cursor (c.self.invariant, c.self.view_is) c.requires.stands c.requires.more in
    there.reads c.index.result.now c.index.ensures

pub returns-clause-place : goal.returns-clause-place
returns-clause-place c =
    let there = found c.self.inside c.args.self.now c.args.cursor (c.self.invariant, c.self.view_is) c.requires.stands c.requires.more in
    omega (arith, there.reads c.index.result.now c.index.ensures, there.place)
