use Rattle.std.proofs.Common.{sym, ap, subst, refl}
use Rattle.lot_scheme.specs.Standing.{LotStanding}
use Rattle.lot_sync.specs.Lot.{◌≈◌}
use Rattle.lot_sync.specs.Traces.{LookTrace}
use Rattle.lot_sync.specs.Passes.{pass_view_of}
use Rattle.lot_sync.proofs.Adding.{alike_at, adds_at}
use Rattle.lot_sync.proofs.Rests.{sees_stays}
use Rattle.lot_sync.proofs.lot.Lot.has_waiters.Goals as goal

pub returns-clause-same : goal.returns-clause-same
returns-clause-same g c =
    subst (λ v. c.at_rest.result ≈ v) (sym c.apart-right.ensures.same)
    (alike_at c.at_rest.result (pass_view_of c.apart-right.result.0) c.has_waiters-right.result.0 c.at_rest.ensures.pass
    (sees_stays c.apart-right.result.0 c.has_waiters-right.result.0 _ c.has_waiters-right.ensures.pass))

pub returns-clause-made : goal.returns-clause-made
returns-clause-made g c =
    adds_at (λ t. LookTrace t c.args.cond c.has_waiters-right.result.1) c.args.pass c.at_rest.result c.apart-right.result.0
    c.has_waiters-right.result.0 _ c.apart-right.ensures.same
    c.at_rest.ensures.pass (ap (λ (r : LotStanding g.row.V.Denot). r.did) c.has_waiters-right.ensures.pass) refl
