use Rattle.std.proofs.Common.{◌∙◌}
use Rattle.lot_core.specs.Lines.{line_of}
use Rattle.lot_core.proofs.LineRows.{one_left}
use Rattle.lot_core.proofs.lines.Lines.dequeue.Goals as goal

pub loop-preserved : goal.loop-preserved
loop-preserved c =
    let so = c.loop.invariant in
    let keys = c.take_first.ensures.keys in (
      one_left (line_of c.args.self.now) _ _ c.args.key c.loop.counter so.0 c.take_first.ensures.rest,
      (keys.0 ∙ so.1.0, keys.1 ∙ so.1.1),
    )
