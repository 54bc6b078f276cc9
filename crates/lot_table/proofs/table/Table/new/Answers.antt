use Rattle.std.proofs.Common.{◌≡◌, List, length, drop, arith, sym, ◌∙◌, subst}
use Rattle.lot_bucket.specs.Contents.{Contents}
use Rattle.lot_table.specs.Buckets.{AreFresh}
use Rattle.lot_table.proofs.Guarding.{lent_whole}
use Rattle.lot_table.proofs.table.Table.new.Goals as goal

pub put_all-requires-clause-fresh : goal.put_all-requires-clause-fresh
put_all-requires-clause-fresh g c κs within =
    let keys : c.len-keys.result ≡ length c.args.roots.items = c.len-keys.ensures ∙ c.args.roots.ok.0 in (
      c.args.threads,
      subst (λ (bs : List (Contents g.row.R.Denot)). AreFresh (length c.args.roots.items) c.args.threads bs)
          (sym c.as_mut_slice.ensures.value) (rw keys at c.in-Ok.ensures.fresh.1),
    )

pub of-first-requires-clause-filled : goal.of-first-requires-clause-filled
of-first-requires-clause-filled g c κs within =
    let keys : c.len-keys.result ≡ length c.args.roots.items = c.len-keys.ensures ∙ c.args.roots.ok.0 in
    let count : length c.put_all.new.fresh ≡ c.in-Ok.parts.fresh.len = omega (arith, c.put_all.auto.fresh, c.as_mut_slice.ensures.len) in
    rw (lent_whole c.in-Ok.parts.fresh.len c.put_all.new.fresh (drop (length c.put_all.new.fresh) c.in-Ok.parts.fresh.items) count, keys)
    c.put_all.ensures.filled
