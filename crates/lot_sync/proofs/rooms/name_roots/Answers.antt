use Rattle.std.proofs.Common.{◌≡◌, ◌++◌, ◌∷◌, [], reverse, ap, ◌∙◌, arith}
use Rattle.lot_rights.specs.Shown.{RootShown}
use Rattle.lot_rights.proofs.Gathers.{all_popped}
use Rattle.lot_rights.proofs.Turns.{moves_on}
use Rattle.lot_whole.specs.declared.views.LotRootView.{LotRootView}
use Rattle.lot_scheme.specs.Counts.{IsUnused}
use Rattle.lot_scheme.specs.Roots.{IsInItsKind}
use Rattle.lot_sync.proofs.rooms.name_roots.Goals as goal

pub loop-root-preserved : goal.loop-root-preserved
loop-root-preserved g c =
    let inv = c.loop-root.invariant in
    let left = c.pop.new.self.items in
    record {
      own = (all_popped (λ (r : RootShown LotRootView). (r.table ≡ g.N.Name.opening.locks) × IsInItsKind g.N.LotName.locks
          g.N.LotName.first_sem r.key r.own × IsUnused r)
          c.loop-root.roots.items left c.in-Some.root c.in-Some.ensures.items inv.own).0;
      moved = ap (λ rs. left ++ reverse rs) (c.push_reserved.ensures.items ∙ ap (λ r. c.loop-root.named.items ++ r ∷ []) c.new.ensures)
          ∙ moves_on c.loop-root.roots.items left c.in-Some.root c.loop-root.named.items c.args.roots.now.items c.in-Some.ensures.items
          inv.moved;
      count = omega (arith, c.in-Some.ensures.len, c.push_reserved.ensures.len, inv.count);
      fits = omega (arith, c.push_reserved.ensures.capacity, inv.fits);
      room = c.in-Some.ensures.capacity ∙ inv.room;
      named_room = c.push_reserved.ensures.capacity ∙ inv.named_room;
    }
