use Rattle.std.proofs.Common.{refl, ◌∙◌, arith}
use Rattle.lot_table.proofs.Roots.{taking_begins, taking_root, taking_more, taking_ends}
use Rattle.lot_table.proofs.closing.hand_out.Goals as goal

pub loop-key-init : goal.loop-key-init
loop-key-init g c =
    record { taking = taking_begins g.R.Root.view c.args.buckets.now c.args.out.now.items; count = omega arith; capacity = refl }

pub root_out-requires-after_bounds : goal.root_out-requires-after_bounds
root_out-requires-after_bounds g c κs within =
    rw (taking_root g.R.Root.view c.args.keys c.loop-key.key c.args.buckets.now c.loop-key.buckets c.args.out.now.items c.loop-key.out.items
    c.index-buckets-key.result
    c.requires.whole c.requires.some c.loop-key-test.true c.loop-key.invariant.taking).1 refl

pub loop-key-preserved : goal.loop-key-preserved
loop-key-preserved g c = record {
  taking =
      taking_more g.R.Root.view c.args.keys c.loop-key.key c.args.buckets.now c.loop-key.buckets c.args.out.now.items c.loop-key.out.items
      c.index-buckets-key.result
      c.requires.whole c.requires.some c.loop-key-test.true c.loop-key.invariant.taking
      c.root_out.new.bucket c.push_reserved.new.self.items c.root_out.result c.root_out.ensures.root c.root_out.ensures.left
      c.push_reserved.ensures.items;
  count = omega (arith, c.push_reserved.ensures.len, c.loop-key.invariant.count);
  capacity = c.push_reserved.ensures.capacity ∙ c.loop-key.invariant.capacity;
}

pub returns-clause-left : goal.returns-clause-left
returns-clause-left g c =
    taking_ends g.R.Root.view c.args.keys c.loop-key.key c.args.buckets.now c.loop-key.buckets c.args.out.now.items c.loop-key.out.items
    c.requires.whole (omega arith) c.loop-key.invariant.taking
