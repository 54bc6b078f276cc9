use Rattle.std.proofs.Common.{ap, arith, length, sym, ◌∙◌}
use Rattle.std.specs.Prelude.{slice_get, Some}
use Rattle.std.proofs.lemmas.Option.{slice_get-get_or}
use Rattle.lot_core.proofs.LineRows.{line_item}
use Rattle.lot_core.proofs.lines.Lines.at.Goals as goal

pub index-requires-2 : goal.index-requires-2
index-requires-2 c =
    let is = ap length (line_item c.args.self.now c.args.key c.index.result.now c.requires.key c.index.ensures) in
    omega (arith, c.requires.place)

pub returns : goal.returns
returns c =
    let is = line_item c.args.self.now c.args.key c.index.result.now c.requires.key c.index.ensures in
    let len = ap length is in
    ap (λ xs. slice_get xs c.args.place) is
    ∙ slice_get-get_or c.index.result.now.items c.args.place c.index-2.result.now (omega (arith, c.requires.place))
    ∙ ap Some (sym c.index-2.ensures)
