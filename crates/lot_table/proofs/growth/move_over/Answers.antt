use Rattle.std.proofs.Common.{◌≡◌, List, length, arith, sym, ◌∙◌, ap, subst}
use Rattle.lot_bucket.specs.Contents.{Contents}
use Rattle.lot_table.specs.Buckets.{AreWhole, Rows}
use Rattle.lot_table.specs.Tables.{under}
use Rattle.lot_table.proofs.Guarding.{length-under}
use Rattle.lot_table.proofs.growth.move_over.Given.{Over}
use Rattle.lot_table.proofs.growth.move_over.Goals.{After-take_out, After-fill-filled}
use Rattle.lot_table.proofs.growth.move_over.Goals as goal

-- what was taken out from under the locks is what was looked at
taken : (g : Over) (c : After-take_out g) → c.take_out.new.old.items ≡ under c.args.guards.items
taken g c = c.take_out.ensures ∙ ap (λ gs. under gs) c.as_mut_slice.ensures.value

whole : (g : Over) (c : After-take_out g) → AreWhole g.R.Root.view c.args.keys c.take_out.new.old.items
whole g c = subst (λ (bs : List (Contents g.row.R.Denot)). AreWhole g.R.Root.view c.args.keys bs) (sym (taken g c)) c.requires.whole

pub move_rows-rows-requires-after_bounds : goal.move_rows-rows-requires-after_bounds
move_rows-rows-requires-after_bounds g c κs within =
    let at = (goal.at.move_rows-rows-requires-after_bounds g c).After-take_out in (
      c.args.keys,
      record {
        few = omega arith;
        some_old =
            omega (
              arith,
              length-under c.args.guards.items,
              ap (λ (bs : List (Contents g.row.R.Denot)). length bs) (taken g at),
              c.args.guards.ok.0,
              c.requires.some,
            );
        some_new = omega (arith, c.args.fresh.ok.0, c.requires.sizes, c.size.ensures.count, c.size.ensures.some);
        whole = whole g at;
        threads = c.requires.fresh.0;
        fresh = c.requires.fresh.1;
        room = rw (taken g at) c.requires.fresh.2;
      },
    )

pub fill-filled-requires-clause-filled : goal.fill-filled-requires-clause-filled
fill-filled-requires-clause-filled g c κs within =
    c.move_rows-rows.ensures.filled c.args.keys (whole g (goal.at.fill-filled-requires-clause-filled g c).After-take_out)

-- what was filled in is what was moved to
moved_to : (g : Over) (c : After-fill-filled g) → c.fill-filled.result.after ≡ c.move_rows-rows.new.new.items
moved_to g c = ap (λ (r : Rows g.row.R.Denot). r.after) c.fill-filled.ensures.rows ∙ c.move_rows-rows.ensures.after

pub returns-clause-from : goal.returns-clause-from
returns-clause-from g c =
    ap (λ (r : Rows g.row.R.Denot). r.before) c.fill-filled.ensures.rows ∙ c.move_rows-rows.ensures.before
    ∙ taken g (goal.at.returns-clause-from g c).After-take_out

pub returns-clause-lines : goal.returns-clause-lines
returns-clause-lines g c =
    let at = goal.at.returns-clause-lines g c in
    rw (moved_to g at.After-fill-filled, ← taken g at.After-take_out) c.move_rows-rows.ensures.lines

pub returns-clause-filled : goal.returns-clause-filled
returns-clause-filled g c =
    let at = goal.at.returns-clause-filled g c in
    rw (moved_to g at.After-fill-filled) (c.move_rows-rows.ensures.filled c.args.keys (whole g at.After-take_out))

pub returns-clause-fresh : goal.returns-clause-fresh
returns-clause-fresh g c =
    rw (moved_to g (goal.at.returns-clause-fresh g c).After-fill-filled) c.move_rows-rows.ensures.else_new
