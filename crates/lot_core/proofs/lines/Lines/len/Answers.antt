use Rattle.std.proofs.Common.{ap, length, arith}
use Rattle.lot_core.proofs.LineRows.{line_item}
use Rattle.lot_core.proofs.lines.Lines.len.Goals as goal

pub returns : goal.returns
returns c =
    let is = ap length (line_item c.args.self.now c.args.key c.index.result.now c.requires c.index.ensures) in
    omega arith
