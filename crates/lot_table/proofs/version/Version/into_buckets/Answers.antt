use Rattle.std.proofs.Common.{ℕ, arith, sym, ◌∙◌}
use Rattle.lot_bucket.specs.Contents.{Contents}
use Rattle.lot_bucket.specs.Settled.{IsWhole}
use Rattle.lot_table.proofs.Making.{each_more}
use Rattle.lot_table.proofs.version.Version.into_buckets.Goals as goal

pub loop-lock-preserved : goal.loop-lock-preserved
loop-lock-preserved g c = record {
  count = omega (arith, c.push_reserved.ensures.len, c.in-Some.ensures.len, c.loop-lock.invariant.count);
  room = omega (arith, c.push_reserved.ensures.capacity, c.loop-lock.invariant.room);
  whole =
      each_more (λ (i : ℕ) (b : Contents g.row.R.Denot). IsWhole g.R.Root.view c.len-size.result i c.args.keys b)
      c.len-number.result c.loop-lock.row.items
      c.push_reserved.new.self.items c.taken_whole.result
      c.push_reserved.ensures.items (sym c.loop-lock.row.ok.0 ∙ sym c.len-number.ensures) c.loop-lock.invariant.whole c.taken_whole.ensures;
}
