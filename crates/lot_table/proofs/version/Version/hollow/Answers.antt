use Rattle.std.proofs.Common.{◌≡◌, ℕ, arith, sym, ◌∙◌}
use Rattle.lot_table.specs.Tables.{Spot}
use Rattle.lot_table.proofs.Making.{each_more}
use Rattle.lot_table.proofs.version.Version.hollow.Goals as goal

pub loop-number-preserved : goal.loop-number-preserved
loop-number-preserved g c = record {
  count = omega (arith, c.push_reserved.ensures.len, c.loop-number.invariant.count);
  room = omega (arith, c.push_reserved.ensures.capacity, c.loop-number.invariant.room);
  numbered =
      each_more (λ (i : ℕ) (s : Spot). s ≡ record { number = i; size = c.args.size }) c.loop-number.number c.loop-number.slots.items
      c.push_reserved.new.self.items c.new.result
      c.push_reserved.ensures.items (sym c.loop-number.slots.ok.0 ∙ c.loop-number.invariant.count) c.loop-number.invariant.numbered
      c.new.ensures;
}
