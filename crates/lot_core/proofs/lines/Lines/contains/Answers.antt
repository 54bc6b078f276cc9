use Rattle.std.specs.Prelude.{◌==◌}
use Rattle.std.proofs.lemmas.Bool.Decides.{Decides-eqb}
use Rattle.std.proofs.lemmas.List.Elements.{contains_decides, Decides-contains}
use Rattle.lot_core.proofs.LineRows.{line_contains, outside_contains}
use Rattle.lot_core.proofs.lines.Lines.contains.Goals as goal

pub returns-then-not-has_key : goal.returns-then-not-has_key
returns-then-not-has_key c =
    outside_contains c.args.self.now c.args.key c.args.thread (λ has. let e = c.has_key.ensures.1 has in absurd (cc))

pub returns : goal.returns
returns c =
    line_contains c.args.self.now c.args.key c.args.thread c.index.result.now c.contains.result (c.has_key.ensures.0 (cc)) c.index.ensures
    (Decides-contains c.index.result.now.items c.args.thread c.contains.result
    (contains_decides (λ a b. a == b) Decides-eqb c.index.result.now.items c.args.thread c.contains.result c.contains.ensures.cases))
