use Rattle.std.proofs.Common.{sym, arith}
use Rattle.lot_witness.proofs.Lines.{whole_number, number_read}
use Rattle.lot_witness.proofs.reading.number.Goals as goal

pub returns-in-Some-default-empty-clause-some : goal.returns-in-Some-default-empty-clause-some
returns-in-Some-default-empty-clause-some c =
    whole_number c.args.text.now c.in-Some-default-empty.number c.in-Some-default-empty.field-0-1.now (sym c.in-Some-default-empty.ensures)
    (omega (arith, c.in-Some-default-empty.len_below))

pub returns-in_default-clause-none : goal.returns-in_default-clause-none
returns-in_default-clause-none c n small is =
    let read = number_read c.args.text.now n small is in grind (arith, read, c.in_default.is, c.field.ensures, c.in_default.len_at_least)

pub returns-in_default-2-clause-none : goal.returns-in_default-2-clause-none
returns-in_default-2-clause-none c n small is =
    let read = number_read c.args.text.now n small is in grind (arith, read, c.in_default.is, c.field.ensures)
