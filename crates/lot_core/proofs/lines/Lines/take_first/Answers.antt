use Rattle.std.proofs.Common.{◌∙◌, sym, ap, drop}
use Rattle.lot_core.specs.Steps.{first}
use Rattle.lot_core.proofs.LineRows.{line_item, line_write, popped_first}
use Rattle.lot_core.proofs.lines.Lines.take_first.Goals as goal

pub returns-clause-first : goal.returns-clause-first
returns-clause-first c =
    popped_first c.index_mut.result.now c.pop_front.new.self.items c.pop_front.result c.pop_front.ensures.variant c.pop_front.ensures.items
    ∙ sym (ap first (line_item c.args.self.now c.args.key c.index_mut.result.now c.requires c.index_mut.ensures.value))

pub returns-clause-rest : goal.returns-clause-rest
returns-clause-rest c =
    line_write c.args.self.now c.args.key c.pop_front.new.self _ c.requires
    (c.pop_front.ensures.rest
    ∙ ap (drop 1) (sym (line_item c.args.self.now c.args.key c.index_mut.result.now c.requires c.index_mut.ensures.value)))
