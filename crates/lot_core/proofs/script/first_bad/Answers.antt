use Rattle.lot_core.proofs.Scripts.{so_more}
use Rattle.lot_core.proofs.script.first_bad.Goals as goal

pub loop-number-preserved : goal.loop-number-preserved
loop-number-preserved c =
    so_more c.args.lines.now c.loop-number.rest.now c.loop-number.number c.in-Some.field-0-0 c.in-Some.behind.now c.loop-number.invariant
    c.in-Some.ensures.some
