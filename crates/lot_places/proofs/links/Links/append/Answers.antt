use Rattle.std.proofs.Common.{arith}
use Rattle.lot_places.proofs.Rows.{closed, used_is, spare_is}
use Rattle.lot_places.proofs.Steps.{append, free_first}
use Rattle.lot_places.proofs.links.Links.append.Goals as goal

pub index-requires : goal.index-requires
index-requires c =
    let done = append c.self.inside c.args.self.now (c.self.invariant, c.self.view_is) c.requires in
    omega (arith, done.free)

pub index_mut-requires : goal.index_mut-requires
index_mut-requires c =
    let done = append c.self.inside c.args.self.now (c.self.invariant, c.self.view_is) c.requires in
    omega (arith, done.last)

pub invariant_of-self : goal.invariant_of-self
invariant_of-self c =
    let done = append c.self.inside c.args.self.now (c.self.invariant, c.self.view_is) c.requires in
    closed (done.after c.index.result.now c.index.ensures)

pub returns-clause-used : goal.returns-clause-used
returns-clause-used c =
    let done = append c.self.inside c.args.self.now (c.self.invariant, c.self.view_is) c.requires in
    used_is (done.after c.index.result.now c.index.ensures)

pub returns-clause-free : goal.returns-clause-free
returns-clause-free c =
    let done = append c.self.inside c.args.self.now (c.self.invariant, c.self.view_is) c.requires in
    rw (spare_is (done.after c.index.result.now c.index.ensures))
    (free_first c.self.inside c.args.self.now (c.self.invariant, c.self.view_is) c.requires)

pub returns-clause-place : goal.returns-clause-place
returns-clause-place c =
    let done = append c.self.inside c.args.self.now (c.self.invariant, c.self.view_is) c.requires in
    done.place

pub returns-clause-unused : goal.returns-clause-unused
returns-clause-unused c =
    let done = append c.self.inside c.args.self.now (c.self.invariant, c.self.view_is) c.requires in
    done.unused
