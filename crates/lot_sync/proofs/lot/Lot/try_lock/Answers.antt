use Rattle.std.proofs.Common.{true, false, sym, subst, ap, arith}
use Rattle.lot_scheme.specs.Standing.{LotStanding}
use Rattle.lot_scheme.specs.Traces.{TryTrace}
use Rattle.lot_sync.specs.Lot.{◌≈◌}
use Rattle.lot_sync.specs.Values.{Gets}
use Rattle.lot_sync.proofs.Rests.{owns_newly, gets_all, rests_on, sees_stays}
use Rattle.lot_sync.specs.Passes.{pass_view_of}
use Rattle.lot_sync.proofs.Adding.{alike_at, adds_at}
use Rattle.lot_sync.proofs.lot.Lot.try_lock.Goals as goal

pub taken-pass-requires-clause-owner : goal.taken-pass-requires-clause-owner
taken-pass-requires-clause-owner g c κs within =
    let same = c.parking.ensures.keys.0 in
    let near = c.requires.key in
    owns_newly g.V.Keeps _ _ c.apart-right.result.0 c.try_get-right.result.0 c.args.key
    (omega (arith, same, near)) c.apart-right.ensures.rest (rw c.if-got.true at c.try_get-right.ensures)

pub returns-then-got-clause-gets : goal.returns-then-got-clause-gets
returns-then-got-clause-gets g c =
    let same = c.parking.ensures.keys.0 in
    let near = c.requires.key in
    subst (λ p. Gets g.V.Keeps p c.args.key c.taken-pass.result.1 c.taken-pass.result.0) (sym c.apart-right.ensures.same)
    (gets_all g.V.Keeps _ _ c.apart-right.result.0 c.try_get-right.result.0 c.taken-pass.result.1 c.args.key
    (omega (arith, same, near)) c.apart-right.ensures.rest
    (rw c.if-got.true at c.try_get-right.ensures) c.taken-pass.ensures.held.0 c.taken-pass.ensures.held.1 c.taken-pass.result.0
    c.taken-pass.ensures.pass)

pub at_rest-requires-clause-rest : goal.at_rest-requires-clause-rest
at_rest-requires-clause-rest g c κs within =
    let missed = rw c.if-got.false at c.try_get-right.ensures in
    rests_on _ _ c.apart-right.result.0 c.try_get-right.result.0 missed.0 missed.2 c.apart-right.ensures.rest

pub returns-else-got-clause-gets : goal.returns-else-got-clause-gets
returns-else-got-clause-gets g c =
    let missed = rw c.if-got.false at c.try_get-right.ensures in
    subst (λ v. c.at_rest.result ≈ v) (sym c.apart-right.ensures.same)
    (alike_at c.at_rest.result (pass_view_of c.apart-right.result.0) c.try_get-right.result.0 c.at_rest.ensures.pass
    (sees_stays c.apart-right.result.0 c.try_get-right.result.0 missed.0 missed.2))

pub returns-then-got-clause-made : goal.returns-then-got-clause-made
returns-then-got-clause-made g c =
    let got = rw c.if-got.true at c.try_get-right.ensures in
    adds_at (λ t. TryTrace t c.args.key true) c.args.pass c.taken-pass.result.0 c.apart-right.result.0 c.try_get-right.result.0 got.did
    c.apart-right.ensures.same c.taken-pass.ensures.pass
    (ap (λ (r : LotStanding g.row.V.Denot). r.did) got.is) got.got

pub returns-else-got-clause-made : goal.returns-else-got-clause-made
returns-else-got-clause-made g c =
    let missed = rw c.if-got.false at c.try_get-right.ensures in
    adds_at (λ t. TryTrace t c.args.key false) c.args.pass c.at_rest.result c.apart-right.result.0 c.try_get-right.result.0 missed.0
    c.apart-right.ensures.same c.at_rest.ensures.pass
    (ap (λ (r : LotStanding g.row.V.Denot). r.did) missed.2) missed.1
