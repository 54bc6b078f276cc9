use Rattle.std.proofs.Common.{◌≡◌, ◌*◌, ◌≤◌, take, arith, ap, ◌∙◌}
use Rattle.std.specs.Prelude.{sum}
use Rattle.std.proofs.lemmas.List.{take_all}
use Rattle.std.proofs.lemmas.Nat.{mul-le}
use Rattle.lot_load.proofs.measure.times.Times.part.Goals as goal

pub returns-clause-some : goal.returns-clause-some
returns-clause-some c some =
    let s = c.args.self.now in
    let n = c.loop-class.class in
    let whole : sum (take n s.counts.items) ≡ s.all = ap sum (take_all n s.counts.items (omega (arith, s.long))) ∙ s.whole in
    let thousand : s.all * c.args.of_thousand ≤ s.all * 1000 = mul-le s.all c.args.of_thousand s.all 1000 (omega arith) c.requires in
    absurd (omega arith)
