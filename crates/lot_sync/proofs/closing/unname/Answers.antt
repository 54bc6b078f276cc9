use Rattle.std.proofs.Common.{◌≡◌, ◌++◌, ◌∷◌, [], reverse, sym, ap, subst, ◌∙◌, arith}
use Rattle.std.specs.List.{All}
use Rattle.std.proofs.lemmas.List.Elements.{All-push}
use Rattle.lot_rights.specs.Shown.{RootShown}
use Rattle.lot_rights.proofs.Turns.{moves_on}
use Rattle.lot_whole.specs.declared.views.LotRootView.{LotRootView}
use Rattle.lot_sync.proofs.closing.unname.Goals as goal

pub loop-root-preserved : goal.loop-root-preserved
loop-root-preserved g c =
    let inv = c.loop-root.invariant in
    let left = c.pop.new.self.items in
    record {
      own = subst (All (λ (r : RootShown LotRootView). r.table ≡ g.N.Name.opening.locks)) (sym c.push_reserved.ensures.items)
          (All-push (λ (r : RootShown LotRootView). r.table ≡ g.N.Name.opening.locks) c.loop-root.roots.items c.into_root.result inv.own
          c.into_root.ensures.named);
      moved = ap (λ rs. left ++ reverse rs) (c.push_reserved.ensures.items
          ∙ ap (λ r. c.loop-root.roots.items ++ r ∷ []) c.into_root.ensures.same)
          ∙ moves_on c.loop-root.named.items left c.in-Some.root c.loop-root.roots.items c.args.named.items c.in-Some.ensures.items
          inv.moved;
      count = omega (arith, c.in-Some.ensures.len, c.push_reserved.ensures.len, inv.count);
      fits = omega (arith, c.push_reserved.ensures.capacity, inv.fits);
    }
