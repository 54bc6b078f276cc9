use Rattle.std.proofs.Common.{◌≡◌, length, drop, arith, take, ◌++◌}
use Rattle.lot_table.proofs.Guarding.{lent_whole}
use Rattle.lot_table.proofs.moves.move_rows.Given.{Over}
use Rattle.lot_table.proofs.moves.move_rows.Goals.{After-of}
use Rattle.lot_table.proofs.moves.move_rows.Goals as goal

-- the rows are what was lent of them
old_row : (g : Over) (c : After-of g)
    → take c.args.old.now.len (c.regrow-moved.new.old ++ drop (length c.regrow-moved.new.old) c.args.old.now.items) ≡ c.regrow-moved.new.old
old_row g c =
    lent_whole c.args.old.now.len c.regrow-moved.new.old _ (omega (arith, c.regrow-moved.auto.old, c.as_mut_slice.ensures.len))

new_row : (g : Over) (c : After-of g)
    → take c.args.new.now.len (c.regrow-moved.new.new ++ drop (length c.regrow-moved.new.new) c.args.new.now.items) ≡ c.regrow-moved.new.new
new_row g c =
    lent_whole c.args.new.now.len c.regrow-moved.new.new _ (omega (arith, c.regrow-moved.auto.new, c.as_mut_slice-2.ensures.len))

pub returns-clause-lines : goal.returns-clause-lines
returns-clause-lines g c =
    rw (new_row g c, ← c.as_mut_slice.ensures.value) c.regrow-moved.ensures.lines

pub returns-clause-filled : goal.returns-clause-filled
returns-clause-filled g c keys whole =
    rw (new_row g c) (c.regrow-moved.ensures.filled keys (rw c.as_mut_slice.ensures.value whole))

pub returns-clause-left : goal.returns-clause-left
returns-clause-left g c = rw (old_row g c) c.regrow-moved.ensures.left

pub returns-clause-else_old : goal.returns-clause-else_old
returns-clause-else_old g c = rw (old_row g c, ← c.as_mut_slice.ensures.value) c.regrow-moved.ensures.else_old

pub returns-clause-else_new : goal.returns-clause-else_new
returns-clause-else_new g c = rw (new_row g c, ← c.as_mut_slice-2.ensures.value) c.regrow-moved.ensures.else_new
