use Rattle.std.proofs.Common.{◌≡◌, ℕ, ◌-◌, vec_len, arith, sym, ap, ◌∙◌}
use Rattle.lot_bucket.specs.Contents.{Contents}
use Rattle.lot_table.specs.Buckets.{IsFilled}
use Rattle.lot_table.specs.Tables.{Spot}
use Rattle.lot_table.proofs.Making.{each_more, each_last, each_rest, opened_whole}
use Rattle.lot_table.proofs.version.Version.of.Goals as goal

pub new-requires-after_bounds : goal.new-requires-after_bounds
new-requires-after_bounds g c κs within =
    opened_whole g.R.Root.view c.len-size.result c.len-number.result c.args.keys c.in-Some.bucket c.open.new.self
    (each_last (λ (i : ℕ) (b : Contents g.row.R.Denot). IsFilled g.R.Root.view c.len-size.result i c.args.keys b)
    c.len-number.result c.pop.new.self.items
    c.loop-bucket.filled.items c.in-Some.bucket
    c.in-Some.ensures.items (sym c.pop.new.self.ok.0 ∙ sym c.len-number.ensures) c.loop-bucket.invariant.filled)
    c.open.ensures

pub loop-bucket-preserved : goal.loop-bucket-preserved
loop-bucket-preserved g c = record {
  count = omega (arith, c.push_reserved.ensures.len, c.in-Some.ensures.len, c.loop-bucket.invariant.count);
  room = omega (arith, c.push_reserved.ensures.capacity, c.loop-bucket.invariant.room);
  kept = omega (arith, c.in-Some.ensures.capacity, c.loop-bucket.invariant.kept);
  numbered =
      each_more (λ (i : ℕ) (s : Spot). s ≡ record { number = c.len-size.result - 1 - i; size = c.len-size.result })
      (vec_len c.loop-bucket.locks) c.loop-bucket.locks.items
      c.push_reserved.new.self.items c.new-in-Some.result
      c.push_reserved.ensures.items (sym c.loop-bucket.locks.ok.0) c.loop-bucket.invariant.numbered
      (c.new-in-Some.ensures
      ∙ ap (λ (n : ℕ). record { number = n; size = c.len-size.result })
      (omega (arith, c.len-number.ensures, c.in-Some.ensures.len, c.loop-bucket.invariant.count)));
  filled =
      each_rest (λ (i : ℕ) (b : Contents g.row.R.Denot). IsFilled g.R.Root.view c.len-size.result i c.args.keys b) c.pop.new.self.items
      c.loop-bucket.filled.items c.in-Some.bucket
      c.in-Some.ensures.items c.loop-bucket.invariant.filled;
}
