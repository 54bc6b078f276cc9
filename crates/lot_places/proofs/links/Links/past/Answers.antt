use Rattle.std.proofs.Common.{arith, ◌∙◌, sym}
use Rattle.lot_places.proofs.Steps.{found, last_of_take_more}
use Rattle.lot_places.proofs.links.Links.past.Goals as goal

pub index-before-requires : goal.index-before-requires
index-before-requires c =
    let there = found c.self.inside c.args.self.now c.args.cursor (c.self.invariant, c.self.view_is) c.requires.stands c.requires.more in
    omega (arith, there.bound)

pub overflow_add-result : goal.overflow_add-result
overflow_add-result c =
    let there = found c.self.inside c.args.self.now c.args.cursor (c.self.invariant, c.self.view_is) c.requires.stands c.requires.more in
    omega (arith, there.fits, there.wide, c.self.inside.next.small)

pub returns-clause-stands : goal.returns-clause-stands
returns-clause-stands c =
    let there = found c.self.inside c.args.self.now c.args.cursor (c.self.invariant, c.self.view_is) c.requires.stands c.requires.more in
    record {
      within = omega (arith, c.requires.more);
      before =
          there.reads c.index-before.result.now c.index-before.ensures
          ∙ sym (last_of_take_more c.args.self.now.room c.args.self.now.used c.args.cursor.passed c.requires.more);
    }
