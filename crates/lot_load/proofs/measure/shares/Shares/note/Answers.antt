use Rattle.std.proofs.Common.{◌≤◌, arith, rules}
use Rattle.std.proofs.lemmas.Nat.{mul-le}
use Rattle.lot_load.specs.declared.measure.shares.TheConstants.{PARTS}
use Rattle.lot_load.proofs.Cauchy.{square_of_sum}
use Rattle.lot_load.proofs.measure.shares.Shares.note.Goals as goal

pub overflow_add-self-3 : goal.overflow_add-self-3
overflow_add-self-3 c =
    let p = c.part-part.result in
    let small : p ≤ PARTS = omega arith in
    omega (arith, mul-le p p PARTS PARTS small small)

pub invariant_of-self : goal.invariant_of-self
invariant_of-self c =
    let p = c.part-part.result in
    let s = c.args.self.now in
    let small : p ≤ PARTS = omega arith in
    let square = mul-le p p PARTS PARTS small small in record {
      few = omega arith;
      small = (omega arith, omega arith);
      within = (omega arith, omega arith);
      square_of_sum = square_of_sum s.count s.sum s.squares p (search rules);
    }
