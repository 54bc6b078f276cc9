use Rattle.std.proofs.Common.{rules}
use Rattle.lot_witness.proofs.Texts.{so_more}
use Rattle.lot_witness.proofs.witness.first_bad.Goals as goal

pub loop-number-preserved : goal.loop-number-preserved
loop-number-preserved c = (
  search rules,
  so_more c.args.lines.now c.loop-number.rest.now c.loop-number.number c.in-Some.field-0-0 c.in-Some.behind.now c.loop-number.invariant.1
      c.in-Some.ensures.some,
)
