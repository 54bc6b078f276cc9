use Rattle.std.proofs.Common.{◌≡◌, List, length, drop, arith, sym, subst}
use Rattle.lot_bucket.specs.Contents.{Contents}
use Rattle.lot_table.specs.Buckets.{AreWhole}
use Rattle.lot_table.proofs.Guarding.{lent_whole}
use Rattle.lot_table.proofs.closing.Closing.close.Goals as goal

pub hand_out-requires-clause-some : goal.hand_out-requires-clause-some
hand_out-requires-clause-some g c κs within =
    rw (c.as_mut_slice.ensures.value, ← c.into_buckets-buckets.result.ok.0) c.into_buckets-buckets.ensures.some

pub hand_out-requires-clause-whole : goal.hand_out-requires-clause-whole
hand_out-requires-clause-whole g c κs within =
    subst (λ (bs : List (Contents g.row.R.Denot)). AreWhole g.R.Root.view c.args.keys bs)
    (sym c.as_mut_slice.ensures.value) c.into_buckets-buckets.ensures.whole

pub hand_out-requires-clause-room : goal.hand_out-requires-clause-room
hand_out-requires-clause-room g c κs within = c.requires

pub spend_empty-requires-after_bounds : goal.spend_empty-requires-after_bounds
spend_empty-requires-after_bounds g c κs within =
    let count : length c.hand_out.new.buckets ≡ c.into_buckets-buckets.result.len =
    omega (arith, c.hand_out.auto.buckets, c.as_mut_slice.ensures.len) in
    rw (lent_whole c.into_buckets-buckets.result.len c.hand_out.new.buckets
    (drop (length c.hand_out.new.buckets) c.into_buckets-buckets.result.items) count) c.hand_out.ensures.left

pub returns : goal.returns
returns g c = c.hand_out.ensures.roots
