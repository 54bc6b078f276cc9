use Rattle.std.proofs.Common.{subst, sym, rules}
use Rattle.lot_sync.specs.Lot.{PassView}
use Rattle.lot_sync.specs.Passes.{pass_view_of}
use Rattle.lot_sync.specs.Values.{KnowBoth}
use Rattle.lot_sync.proofs.Knowing.{know_both}
use Rattle.lot_sync.proofs.lot.Lot.check_parts.Goals as goal

pub returns-clause-parts : goal.returns-clause-parts
returns-clause-parts g c =
    let p = c.apart-first.result.0 in
    let q = c.apart-second.result.0 in
    subst (λ (y : PassView g.row.V.Denot). KnowBoth g.V.Keeps c.args.key c.args.first y) (sym c.apart-second.ensures.same)
    (subst (λ (x : PassView g.row.V.Denot). KnowBoth g.V.Keeps c.args.key x (pass_view_of q)) (sym c.apart-first.ensures.same)
    (know_both g.V.Keeps c.args.key p q (c.check_apart-one.ensures.values c.args.key (search rules))))

pub returns-clause-same : goal.returns-clause-same
returns-clause-same g c = search rules
