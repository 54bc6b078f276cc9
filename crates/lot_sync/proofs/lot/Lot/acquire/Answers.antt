use Rattle.std.proofs.Common.{sym, ap, subst, rules}
use Rattle.lot_order.specs.Order.{AllBelow}
use Rattle.lot_scheme.specs.Standing.{LotStanding}
use Rattle.lot_scheme.specs.Traces.{GetPermitTrace}
use Rattle.lot_sync.specs.Lot.{◌≈◌, one_permit_more, keys_of}
use Rattle.lot_sync.specs.Passes.{pass_view_of}
use Rattle.lot_sync.proofs.Below.{below}
use Rattle.lot_sync.proofs.Adding.{alike_at, adds_at}
use Rattle.lot_sync.proofs.Calls.{sees_permit}
use Rattle.lot_sync.proofs.lot.Lot.acquire.Goals as goal

pub acquire-right-requires-clause-above : goal.acquire-right-requires-clause-above
acquire-right-requires-clause-above g c κs within =
    below g.V.Keeps.above c.apart-right.result.0 c.args.key
    (subst (λ p. AllBelow g.V.Keeps.above (keys_of p) c.args.key) c.apart-right.ensures.same c.requires.above)

pub returns-clause-pass : goal.returns-clause-pass
returns-clause-pass g c =
    let got = c.acquire-right.ensures.gets in
    subst (λ v. c.at_rest.result ≈ one_permit_more v c.args.key) (sym c.apart-right.ensures.same)
    (alike_at c.at_rest.result (one_permit_more (pass_view_of c.apart-right.result.0) c.args.key) c.acquire-right.result.0
    c.at_rest.ensures.pass (sees_permit c.apart-right.result.0 c.acquire-right.result.0 c.args.key got.did got.is))

pub returns-clause-made : goal.returns-clause-made
returns-clause-made g c =
    let got = c.acquire-right.ensures.gets in
    adds_at (λ t. GetPermitTrace t c.args.key) c.args.pass c.at_rest.result c.apart-right.result.0 c.acquire-right.result.0 got.did
    c.apart-right.ensures.same c.at_rest.ensures.pass
    (ap (λ (r : LotStanding g.row.V.Denot). r.did) got.is) got.got

pub returns-clause-permit : goal.returns-clause-permit
returns-clause-permit g c = search rules
