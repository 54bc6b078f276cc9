use Rattle.std.proofs.Common.{sym, subst, ap, arith}
use Rattle.lot_scheme.specs.Standing.{LotStanding}
use Rattle.lot_scheme.specs.Traces.{GetTrace}
use Rattle.lot_locks.specs.Standing.{IsOwner}
use Rattle.lot_locks.proofs.Seeking.{may_take, owner_on, has_found}
use Rattle.lot_order.specs.Order.{AllBelow}
use Rattle.lot_sync.specs.Lot.{keys_of}
use Rattle.lot_sync.specs.Values.{Gets}
use Rattle.lot_sync.proofs.Below.{may_want}
use Rattle.lot_sync.proofs.Rests.{owns_newly, gets_all}
use Rattle.lot_sync.proofs.Adding.{adds_at}
use Rattle.lot_sync.proofs.lot.Lot.lock.Given.{Over}
use Rattle.lot_sync.proofs.lot.Lot.lock.Goals.{Joined-found-eq-UNHELD, then-found-eq-UNHELD, else-found-eq-UNHELD}
use Rattle.lot_sync.proofs.lot.Lot.lock.Goals as goal

-- the lock was got: by the first exchange, or slowly
got : (g : Over) (c : Joined-found-eq-UNHELD g) → IsOwner g.V.Keeps c.apart-right.result.0 c.args.key c.if-found-eq-UNHELD.right
got g c =
    let before = c.apart-right.result.0 in
    elim c.if-found-eq-UNHELD.branch [
      | then-found-eq-UNHELD w ↦ subst (IsOwner g.V.Keeps before c.args.key) (sym w.right-is)
          (c.get_free-right.ensures.got w.if-found-eq-UNHELD.true)
      | else-found-eq-UNHELD w ↦ subst (IsOwner g.V.Keeps before c.args.key) (sym w.right-is)
          (owner_on g.V.Keeps g.N.LotName.locks before c.get_free-right.result.0 w.get_slowly-right.result c.args.key
          (c.get_free-right.ensures.missed w.if-found-eq-UNHELD.false) w.get_slowly-right.ensures.owner)
    ]

pub get_free-right-requires-clause-may : goal.get_free-right-requires-clause-may
get_free-right-requires-clause-may g c =
    may_want g.V.Keeps.above c.apart-right.result.0 c.args.key c.apart-right.ensures.rest.idle
    (subst (λ p. AllBelow g.V.Keeps.above (keys_of p) c.args.key) c.apart-right.ensures.same c.requires.above)

pub get_slowly-right-requires-clause-may : goal.get_slowly-right-requires-clause-may
get_slowly-right-requires-clause-may g c κs within =
    may_take g.V.Keeps g.N.LotName.locks c.apart-right.result.0 c.get_free-right.result.0 c.args.key
    (c.get_free-right.ensures.missed c.if-found-eq-UNHELD.false)

pub get_slowly-right-requires-clause-found : goal.get_slowly-right-requires-clause-found
get_slowly-right-requires-clause-found g c κs within =
    has_found c.apart-right.result.0 c.get_free-right.result.0 c.args.key c.get_free-right.result.1
    (c.get_free-right.ensures.found c.if-found-eq-UNHELD.false)

pub taken-requires-clause-owner : goal.taken-requires-clause-owner
taken-requires-clause-owner g c κs within =
    let same = c.parking.ensures.keys.0 in
    let near = c.requires.key in
    let before = c.apart-right.result.0 in
    let owner = got g (goal.at.taken-requires-clause-owner g c).Joined-found-eq-UNHELD in
    owns_newly g.V.Keeps _ _ before c.if-found-eq-UNHELD.right c.args.key (omega (arith, same, near)) c.apart-right.ensures.rest owner

pub returns-clause-gets : goal.returns-clause-gets
returns-clause-gets g c =
    let same = c.parking.ensures.keys.0 in
    let near = c.requires.key in
    let before = c.apart-right.result.0 in
    let owner = got g (goal.at.returns-clause-gets g c).Joined-found-eq-UNHELD in
    subst (λ p. Gets g.V.Keeps p c.args.key c.taken.result.1 c.taken.result.0) (sym c.apart-right.ensures.same)
    (gets_all g.V.Keeps _ _ before c.if-found-eq-UNHELD.right c.taken.result.1 c.args.key
    (omega (arith, same, near)) c.apart-right.ensures.rest owner
    c.taken.ensures.held.0 c.taken.ensures.held.1 c.taken.result.0 c.taken.ensures.pass)

pub returns-clause-made : goal.returns-clause-made
returns-clause-made g c =
    let before = c.apart-right.result.0 in
    let owner = got g (goal.at.returns-clause-made g c).Joined-found-eq-UNHELD in
    adds_at (λ t. GetTrace t c.args.key) c.args.pass c.taken.result.0 before c.if-found-eq-UNHELD.right owner.did
    c.apart-right.ensures.same c.taken.ensures.pass
    (ap (λ (r : LotStanding g.row.V.Denot). r.did) owner.is) owner.got
