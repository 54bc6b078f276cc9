use Rattle.std.proofs.Common.{arith, ℕ}
use Rattle.lot_bucket.specs.Contents.{Contents}
use Rattle.lot_table.specs.Buckets.{IsFilled}
use Rattle.lot_table.proofs.Making.{opened_whole}
use Rattle.lot_table.proofs.Spending.{all_left, last_out}
use Rattle.lot_table.proofs.version.Version.fill.Goals as goal

pub open-requires : goal.open-requires
open-requires g c κs within = within

pub new-settled-requires-after_bounds : goal.new-settled-requires-after_bounds
new-settled-requires-after_bounds g c κs within =
    let filled = λ (i : ℕ) (b : Contents g.row.R.Denot). IsFilled g.R.Root.view c.len-size.result i c.args.keys b in
    opened_whole g.R.Root.view c.len-size.result c.len-number.result c.args.keys c.in-Some.bucket c.open.new.self
    (rw (c.len-number.ensures, c.pop.new.self.ok.0)
    (last_out filled c.loop-bucket.fresh.items c.pop.new.self.items c.pop.result c.in-Some.bucket c.pop.ensures.items c.in-Some.is
    c.loop-bucket.invariant.filled))
    c.open.ensures

pub lock_of-requires-after_bounds : goal.lock_of-requires-after_bounds
lock_of-requires-after_bounds g c κs within =
    omega (arith, c.len-number.ensures, c.in-Some.ensures.len, c.loop-bucket.invariant.count, c.len-size.ensures, c.requires.count)

pub loop-bucket-preserved : goal.loop-bucket-preserved
loop-bucket-preserved g c = record {
  count = omega (arith, c.loop-bucket.invariant.count, c.pop.ensures.len);
  filled =
      all_left (λ (i : ℕ) (b : Contents g.row.R.Denot). IsFilled g.R.Root.view c.len-size.result i c.args.keys b) c.loop-bucket.fresh.items
      c.pop.new.self.items c.pop.result
      c.pop.ensures.items c.loop-bucket.invariant.filled;
}
