use Rattle.std.proofs.Common.{subst, sym, arith}
use Rattle.lot_words.specs.Values.{IsIn, HasSeen, MayBecome}
use Rattle.lot_sync.specs.Lot.{Owns}
use Rattle.lot_sync.specs.Values.{MayGiveBack}
use Rattle.lot_sync.proofs.Rests.{may_leave, owns_again, lies_in, owned_held}
use Rattle.lot_sync.proofs.lot.Lot.given_back.Goals as goal

pub value_in-right-requires-clause-holds : goal.value_in-right-requires-clause-holds
value_in-right-requires-clause-holds g c =
    let holds =
    owned_held c.apart-right.result.0.own.locks.holds c.args.key
    (subst (λ p. Owns p c.args.key) c.apart-right.ensures.same c.requires.owns) in
    (holds, c.apart-right.ensures.rest.out c.args.key holds)

pub value_in-right-requires-clause-lawful : goal.value_in-right-requires-clause-lawful
value_in-right-requires-clause-lawful g c =
    let same = c.parking.ensures.keys.0 in
    let near = c.requires.key.1 in
    subst (λ v. (x : _) × HasSeen c.apart-right.result.0.own.locks c.args.key x
    × MayBecome g.V.Keeps c.args.key c.apart-right.result.0.thread x v) (sym c.into_value.ensures)
    (may_leave g.V.Keeps _ c.apart-right.result.0 c.args.held c.args.key c.requires.key.0
    (omega (arith, same, near)) c.apart-right.ensures.rest
    (subst (λ p. MayGiveBack g.V.Keeps p c.args.held) c.apart-right.ensures.same c.requires.back))

pub returns-clause-owner : goal.returns-clause-owner
returns-clause-owner g c =
    let same = c.parking.ensures.keys.0 in
    let near = c.requires.key.1 in
    let owns = subst (λ p. Owns p c.args.key) c.apart-right.ensures.same c.requires.owns in
    owns_again _ _ c.apart-right.result.0 c.value_in-right.result c.args.key c.into_value.result
    (omega (arith, same, near)) c.apart-right.ensures.rest owns c.value_in-right.ensures

pub returns-clause-lies : goal.returns-clause-lies
returns-clause-lies g c =
    let same = c.parking.ensures.keys.0 in
    let near = c.requires.key.1 in
    let long = c.apart-right.ensures.rest.of_lot.places_long in
    subst (λ v. IsIn c.value_in-right.result.own.locks c.args.key v) c.into_value.ensures
    (lies_in c.apart-right.result.0 c.value_in-right.result c.args.key c.into_value.result c.value_in-right.ensures
    (omega (arith, same, near, long)))
