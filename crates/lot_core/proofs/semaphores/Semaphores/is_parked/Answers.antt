use Rattle.std.proofs.Common.{sym, false}
use Rattle.lot_core.proofs.Rows.{told_item}
use Rattle.lot_core.proofs.semaphores.Semaphores.is_parked.Goals as goal

pub returns : goal.returns
returns c =
    sym (told_item (λ m. m.parked) false c.args.self.now.first_sem c.args.self.now.items.items c.args.sem c.index.result.now c.requires.0
    c.requires.1 c.index.ensures)
