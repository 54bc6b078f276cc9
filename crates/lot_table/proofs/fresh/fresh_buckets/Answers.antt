use Rattle.std.proofs.Common.{◌≡◌, arith, ℕ, List, length, get_or, ◌∙◌, ap, subst, sym}
use Rattle.lot_bucket.specs.Contents.{Contents}
use Rattle.lot_table.specs.Buckets.{IsFresh}
use Rattle.lot_table.proofs.Making.{each_more}
use Rattle.lot_table.proofs.Spending.{fresh_spent}
use Rattle.lot_table.proofs.fresh.fresh_buckets.Goals as goal

pub loop-number-init : goal.loop-number-init
loop-number-init g c =
    let empty : length c.in_ok-buckets.buckets.items ≡ 0 =
    ap (λ (bs : List (Contents g.row.R.Denot)). length bs) c.in_ok-buckets.ensures.items in
    record {
      count = c.in_ok-buckets.ensures.len;
      room = c.in_ok-buckets.ensures.capacity;
      fresh = λ i d lt. absurd (omega (arith, lt, empty));
    }

pub discard_all-requires-after_bounds : goal.discard_all-requires-after_bounds
discard_all-requires-after_bounds g c κs within i b lt =
    fresh_spent c.args.size i c.args.keys c.args.threads (get_or c.loop-number.buckets.items i b)
    (c.loop-number.invariant.fresh i b (rw (← c.loop-number.buckets.ok.0) lt))

pub push_reserved-requires : goal.push_reserved-requires
push_reserved-requires g c = omega (arith, c.loop-number.invariant.count, c.loop-number.invariant.room, c.loop-number-test.true, c.requires)

pub loop-number-preserved : goal.loop-number-preserved
loop-number-preserved g c = record {
  count = omega (arith, c.push_reserved.ensures.len, c.loop-number.invariant.count);
  room = omega (arith, c.push_reserved.ensures.capacity, c.loop-number.invariant.room);
  fresh =
      each_more (λ (i : ℕ) (b : Contents g.row.R.Denot). IsFresh c.args.size i c.args.keys c.args.threads b) c.loop-number.number
      c.loop-number.buckets.items c.push_reserved.new.self.items
      c.in-Ok.bucket
      c.push_reserved.ensures.items (sym c.loop-number.buckets.ok.0 ∙ c.loop-number.invariant.count)
      c.loop-number.invariant.fresh c.in-Ok.ensures;
}

pub returns-clause-fresh : goal.returns-clause-fresh
returns-clause-fresh g c i b lt =
    let count : c.args.size ≡ length c.loop-number.buckets.items =
    omega (arith, c.loop-number.auto.number-end, c.loop-number-test.false, c.loop-number.invariant.count, c.loop-number.buckets.ok.0) in
    subst (λ (n : ℕ). IsFresh n i c.args.keys c.args.threads (get_or c.loop-number.buckets.items i b)) count
    (c.loop-number.invariant.fresh i b lt)
