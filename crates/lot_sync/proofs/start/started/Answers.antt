use Rattle.std.proofs.Common.{◌≡◌, List, Some, slice_get, subst, sym, ◌∙◌, rules}
use Rattle.lot_rights.specs.Shown.{RootShown}
use Rattle.lot_whole.specs.declared.views.LotRootView.{LotRootView}
use Rattle.lot_sync.specs.Lot.{LotNames}
use Rattle.lot_sync.specs.Starting.{Starts}
use Rattle.lot_sync.proofs.Starts.{fresh_named, roots_named, roots_idle}
use Rattle.lot_sync.proofs.start.started.Goals as goal

pub name_roots-requires-clause-own : goal.name_roots-requires-clause-own
name_roots-requires-clause-own g c κs within =
    let o = c.opened.inside in
    roots_named g.V.Keeps o.words o.passes.items o.roots.items o.threads o.locks o.conds o.sems c.opened.invariant _ (c.requires.named
    ∙ sym c.opened.view_is)

pub open-requires-clause-idle : goal.open-requires-clause-idle
open-requires-clause-idle g c κs within =
    let o = c.opened.inside in
    λ i root at. roots_idle g.V.Keeps o.words o.passes.items o.roots.items o.threads o.locks o.conds o.sems c.opened.invariant i root
    (subst (λ (rs : List (RootShown LotRootView)). slice_get rs i ≡ Some root) c.name_roots.ensures.same at)

pub pool_of-pool-requires-clause-fresh : goal.pool_of-pool-requires-clause-fresh
pool_of-pool-requires-clause-fresh g c κs within =
    let o = c.opened.inside in
    fresh_named g.V.Keeps o.words o.passes.items o.roots.items o.threads o.locks o.conds o.sems c.opened.invariant _ (c.requires.named
    ∙ sym c.opened.view_is)

pub pool_of-pool-requires-clause-rests : goal.pool_of-pool-requires-clause-rests
pool_of-pool-requires-clause-rests g c κs within = λ p start. c.requires.rests p (subst (λ
    (ns : LotNames g.row.V.Denot). Starts ns.values ns.threads p) c.requires.named start)

pub of-requires-clause-lot : goal.of-requires-clause-lot
of-requires-clause-lot g c = search rules
