use Rattle.std.proofs.Common.{sym, ap, subst}
use Rattle.lot_scheme.specs.Standing.{LotStanding}
use Rattle.lot_permits.specs.Freed.{GivenTrace}
use Rattle.lot_sync.specs.Lot.{◌≈◌, one_permit_less}
use Rattle.lot_sync.specs.Passes.{pass_view_of}
use Rattle.lot_sync.proofs.Adding.{alike_at, adds_at}
use Rattle.lot_sync.proofs.Calls.{sees_given}
use Rattle.lot_sync.proofs.lot.Lot.release.Goals as goal

pub returns-clause-pass : goal.returns-clause-pass
returns-clause-pass g c =
    let gave = c.release-right.ensures.gives in
    subst (λ v. c.at_rest.result ≈ one_permit_less v c.args.permit.key) (sym c.apart-right.ensures.same)
    (alike_at c.at_rest.result (one_permit_less (pass_view_of c.apart-right.result.0) c.args.permit.key) c.release-right.result.0
    c.at_rest.ensures.pass (sees_given c.apart-right.result.0 c.release-right.result.0 c.args.permit.key gave.did gave.is))

pub returns-clause-made : goal.returns-clause-made
returns-clause-made g c =
    let gave = c.release-right.ensures.gives in
    adds_at (λ t. GivenTrace t c.args.permit.key c.release-right.result.1) c.args.pass c.at_rest.result c.apart-right.result.0
    c.release-right.result.0 gave.did c.apart-right.ensures.same
    c.at_rest.ensures.pass (ap (λ (r : LotStanding g.row.V.Denot). r.did) gave.is) gave.given
