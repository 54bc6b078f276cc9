use Rattle.std.proofs.Common.{◌≡◌, length, refl, ◌∙◌, arith}
use Rattle.lot_table.proofs.Roots.{filling_begins, filling_home, filling_more, filling_ends, filling_roots}
use Rattle.lot_table.proofs.table.put_all.Goals as goal

pub loop-root-init : goal.loop-root-init
loop-root-init g c =
    record {
      filling = filling_begins (length c.args.roots.now.items) c.requires.fresh.0 c.args.roots.now.items c.args.fresh.now
          c.requires.fresh.1;
      room = refl;
    }

pub put_root-requires : goal.put_root-requires
put_root-requires g c =
    let count : c.len-key.result ≡ length c.pop.new.self.items = c.len-key.ensures ∙ c.pop.new.self.ok.0 in
    let home =
    rw (← count) at
    (filling_home _ _ _ _ _ _ _ c.index-fresh-key.result c.requires.fresh.1 c.requires.some c.loop-root.invariant.filling
    c.in-Some.ensures.items) in
    record { has = home.0; room = home.1 }

pub loop-root-preserved : goal.loop-root-preserved
loop-root-preserved g c =
    let count : c.len-key.result ≡ length c.pop.new.self.items = c.len-key.ensures ∙ c.pop.new.self.ok.0 in
    record {
      filling =
          rw count
          (filling_more _ _ _ _ _ _ _ c.index-fresh-key.result c.requires.fresh.1 c.requires.some c.loop-root.invariant.filling
          c.in-Some.ensures.items c.put_root.new.self (rw count at c.put_root.ensures));
      room = omega (arith, c.in-Some.ensures.capacity, c.loop-root.invariant.room);
    }

pub returns-clause-filled : goal.returns-clause-filled
returns-clause-filled g c =
    filling_ends g.R.Root.view c.requires.fresh.0 c.args.roots.now.items c.loop-root.roots.items c.args.fresh.now c.loop-root.fresh
    c.requires.fresh.1 c.requires.idle
    c.loop-root.invariant.filling
    (omega (arith, c.loop-root.roots.ok.0, c.in_default.ensures.cases.0))

pub returns-clause-roots : goal.returns-clause-roots
returns-clause-roots g c =
    filling_roots c.args.roots.now.items c.loop-root.roots.items c.args.fresh.now c.loop-root.fresh c.loop-root.invariant.filling
    (omega (arith, c.loop-root.roots.ok.0, c.in_default.ensures.cases.0))

pub returns-clause-as_before : goal.returns-clause-as_before
returns-clause-as_before g c = c.loop-root.invariant.filling.else_as
