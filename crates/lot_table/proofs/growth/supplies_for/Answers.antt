use Rattle.std.proofs.Common.{length, get_or, arith, sym, ◌∙◌}
use Rattle.lot_table.proofs.Spending.{fresh_spent}
use Rattle.lot_table.proofs.growth.supplies_for.Goals as goal

pub hollow-requires-after_bounds : goal.hollow-requires-after_bounds
hollow-requires-after_bounds g c κs within = c.requires

pub fresh_buckets-requires-after_bounds : goal.fresh_buckets-requires-after_bounds
fresh_buckets-requires-after_bounds g c κs within = omega arith

pub discard_all-requires-after_bounds : goal.discard_all-requires-after_bounds
discard_all-requires-after_bounds g c κs within i b lt =
    fresh_spent (length c.in-Ok.fresh.items) i c.args.keys c.args.threads (get_or c.in-Ok.fresh.items i b)
    (c.in-Ok.ensures.fresh i b (rw (← c.in-Ok.fresh.ok.0) lt))

pub returns-in-Ok-room_for : goal.returns-in-Ok-room_for
returns-in-Ok-room_for g c = record {
  guards = (c.in_ok-guards.ensures.len, c.in_ok-guards.ensures.capacity);
  old = (c.in-Ok-room_for.ensures.items, c.in-Ok-room_for.ensures.capacity);
  fresh = c.in-Ok.ensures.fresh;
  sizes = c.in-Ok.ensures.len ∙ sym c.in_ok-grown.ensures;
  grown = c.in_ok-grown.ensures;
}
