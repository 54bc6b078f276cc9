use Rattle.std.proofs.Common.{refl, ◌≡◌, List, length, arith, ap, ◌∙◌}
use Rattle.lot_bucket.specs.Contents.{Contents}
use Rattle.lot_table.specs.Tables.{Extent}
use Rattle.lot_table.proofs.Guarding.{length-under}
use Rattle.lot_table.proofs.Making.{newly_fair}
use Rattle.lot_table.proofs.growth.grow_with.Goals as goal

pub move_over-filled-requires-clause-fresh : goal.move_over-filled-requires-clause-fresh
move_over-filled-requires-clause-fresh g c κs within =
    (c.args.threads, c.requires.fresh.0, rw (← c.as_slice.ensures.value) (c.if-not-are_whole.ensures.few refl))

pub returns-in-Ok : goal.returns-in-Ok
returns-in-Ok g c =
    let size : c.in-Ok.found.version.now.size ≡ c.args.supplies.grown.size = ap (λ (v : Extent). v.size) c.in-Ok.ensures.published.1 in (
      c.in-Ok.ensures.grown,
      c.in-Ok.ensures.published.0,
      size,
      record {
        before_len =
            omega (
              arith,
              ap (λ (bs : List (Contents g.row.R.Denot)). length bs) c.move_over-filled.ensures.from,
              length-under c.lock_all.new.guards.items,
              c.lock_all.new.guards.ok.0,
              c.lock_all.ensures.len,
            );
        after_len = c.move_over-filled.ensures.count ∙ size;
        lines = rw c.move_over-filled.ensures.from c.move_over-filled.ensures.lines;
        fair =
            newly_fair c.args.keys c.args.threads c.args.supplies.fresh.items c.move_over-filled.result.after c.requires.fresh.0
            (omega (arith, c.requires.fresh.1, c.move_over-filled.ensures.count, size, c.args.supplies.fresh.ok.0))
            c.move_over-filled.ensures.fresh;
      },
    )
