use Rattle.std.proofs.Common.{◌∙◌, sym, arith}
use Rattle.std.proofs.lemmas.List.{get_or_default}
use Rattle.lot_core.proofs.SemaphoreRows.{item_out, item_wide}
use Rattle.lot_core.proofs.semaphores.Semaphores.out_with.Goals as goal

pub returns : goal.returns
returns c =
    let s = c.args.self.now in
    let m = c.index.result.now in
    c.index-2.ensures
    ∙ sym (item_out s c.args.sem c.args.thread m c.requires.key c.index.ensures
    ∙ get_or_default m.out.items c.args.thread 0 c.index-2.result.now
    (omega (arith, item_wide s c.args.sem m c.requires.key c.index.ensures, c.requires.thread)))
