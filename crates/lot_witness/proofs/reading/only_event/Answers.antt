use Rattle.std.proofs.Common.{arith}
use Rattle.lot_witness.proofs.Lines.{alone, not_alone, no_event_alone}
use Rattle.lot_witness.proofs.reading.only_event.Goals as goal

pub returns-in_default-clause-none : goal.returns-in_default-clause-none
returns-in_default-clause-none c e = no_event_alone c.args.line.now e c.in_default.ensures.none

pub returns-then-not-is_empty-clause-none : goal.returns-then-not-is_empty-clause-none
returns-then-not-is_empty-clause-none c e =
    not_alone c.args.line.now c.in-Some.event e c.in-Some.rest.now c.in-Some.ensures.some (grind (arith, c.if-not-is_empty.true))

pub returns-clause-some : goal.returns-clause-some
returns-clause-some c =
    alone c.args.line.now c.in-Some.event c.in-Some.rest.now c.in-Some.ensures.some (grind (arith, c.if-not-is_empty.false))
