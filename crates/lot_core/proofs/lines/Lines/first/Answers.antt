use Rattle.std.proofs.Common.{◌∙◌, sym, ap}
use Rattle.lot_core.specs.Steps.{first}
use Rattle.lot_core.proofs.LineRows.{line_item, front_first}
use Rattle.lot_core.proofs.lines.Lines.first.Goals as goal

pub returns : goal.returns
returns c =
    c.copied.ensures ∙ front_first c.index.result.now c.front.result c.front.ensures.variant c.front.ensures.lookup
    ∙ sym (ap first (line_item c.args.self.now c.args.key c.index.result.now c.requires c.index.ensures))
