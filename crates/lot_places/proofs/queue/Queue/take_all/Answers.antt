use Rattle.std.proofs.Common.{◌≤◌, length, arith, ◌∙◌, take_all, refl}
use Rattle.lot_places.specs.Queue.{line_of}
use Rattle.lot_places.proofs.Laws.{line_fits}
use Rattle.lot_places.proofs.Lines.{without_count-all}
use Rattle.lot_places.proofs.queue.Queue.take_all.Goals as goal

pub returns-clause-count : goal.returns-clause-count
returns-clause-count c = omega (arith, line_fits c.args.key c.args.self.now.pairs, c.take_count.ensures.taken, c.len-all.ensures.count)

pub returns-clause-line : goal.returns-clause-line
returns-clause-line c =
    let line = line_of c.args.key c.args.self.now.pairs in
    let few : length line ≤ c.len-all.result = omega (arith, line_fits c.args.key c.args.self.now.pairs, c.len-all.ensures.count) in
    c.take_count.ensures.line ∙ take_all c.len-all.result line few

pub returns-clause-left : goal.returns-clause-left
returns-clause-left c =
    let few : length (line_of c.args.key c.args.self.now.pairs) ≤ c.len-all.result =
    omega (arith, line_fits c.args.key c.args.self.now.pairs, c.len-all.ensures.count) in
    rw (c.take_count.ensures.left, without_count-all c.len-all.result c.args.key c.args.self.now.pairs few) refl

pub returns-clause-beyond : goal.returns-clause-beyond
returns-clause-beyond c = c.take_count.ensures.beyond
