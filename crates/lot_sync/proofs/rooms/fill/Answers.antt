use Rattle.std.proofs.Common.{◌∙◌, arith}
use Rattle.lot_rights.proofs.Gathers.{all_popped}
use Rattle.lot_waits.specs.Ledger.{AreZeros}
use Rattle.lot_sync.specs.Starting.{IsNewPass}
use Rattle.lot_sync.proofs.Naming.{names_of}
use Rattle.lot_sync.proofs.rooms.fill.Goals as goal

pub make_idle-requires-clause-fresh : goal.make_idle-requires-clause-fresh
make_idle-requires-clause-fresh g c κs within =
    (all_popped (IsNewPass g.V.Keeps.grows (names_of g.N.Name g.N.LotName))
    c.loop-right.passes.items c.pop.new.self.items c.in-Some.right c.in-Some.ensures.items c.loop-right.invariant.fresh).1

pub make_idle-requires-clause-none : goal.make_idle-requires-clause-none
make_idle-requires-clause-none g c κs within =
    (all_popped (λ t. AreZeros g.N.LotName.conds t.value) c.loop-right.tallies.items c.take_last.new.self.items c.take_last.result
    c.take_last.ensures.items c.loop-right.invariant.none).1

pub loop-right-preserved : goal.loop-right-preserved
loop-right-preserved g c =
    let inv = c.loop-right.invariant in
    let both = inv.both in
    let less = c.take_last.ensures.len in
    let fewer = c.in-Some.ensures.len in
    record {
      fresh = (all_popped (IsNewPass g.V.Keeps.grows (names_of g.N.Name g.N.LotName)) c.loop-right.passes.items
          c.pop.new.self.items c.in-Some.right c.in-Some.ensures.items inv.fresh).0;
      none = (all_popped (λ t. AreZeros g.N.LotName.conds t.value) c.loop-right.tallies.items c.take_last.new.self.items
          c.take_last.result c.take_last.ensures.items inv.none).0;
      both = omega (arith, both, less, fewer);
      count = omega (arith, fewer);
      fits = omega arith;
      room = c.push_reserved.ensures.capacity ∙ inv.room;
      passes_room = c.in-Some.ensures.capacity ∙ inv.passes_room;
    }
