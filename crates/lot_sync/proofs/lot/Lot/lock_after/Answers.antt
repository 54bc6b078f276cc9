use Rattle.std.proofs.Common.{inl, inr, sym, subst, ap, ◌∙◌, arith}
use Rattle.lot_scheme.specs.Standing.{LotStanding}
use Rattle.lot_scheme.specs.Traces.{GetTrace}
use Rattle.lot_locks.specs.Standing.{letters_in}
use Rattle.lot_order.specs.Order.{AllBelow}
use Rattle.lot_sync.specs.Lot.{PassView, keys_of}
use Rattle.lot_sync.specs.Values.{Gets}
use Rattle.lot_sync.proofs.Below.{may_want}
use Rattle.lot_sync.proofs.Rests.{owns_newly, gets_all}
use Rattle.lot_sync.proofs.Adding.{adds_at}
use Rattle.lot_sync.proofs.lot.Lot.lock_after.Goals as goal

pub get-right-requires-clause-may : goal.get-right-requires-clause-may
get-right-requires-clause-may g c κs within =
    may_want g.V.Keeps.above c.apart-right.result.0 c.args.key c.apart-right.ensures.rest.idle
    (subst (λ p. AllBelow g.V.Keeps.above (keys_of p) c.args.key) c.apart-right.ensures.same c.requires.above)

pub taken-requires-clause-owner : goal.taken-requires-clause-owner
taken-requires-clause-owner g c κs within =
    let same = c.parking.ensures.keys.0 in
    let near = c.requires.key in
    owns_newly g.V.Keeps _ _ c.apart-right.result.0 c.get-right.result c.args.key
    (omega (arith, same, near)) c.apart-right.ensures.rest c.get-right.ensures.owner

pub returns-clause-gets : goal.returns-clause-gets
returns-clause-gets g c =
    let same = c.parking.ensures.keys.0 in
    let near = c.requires.key in
    subst (λ p. Gets g.V.Keeps p c.args.key c.taken.result.1 c.taken.result.0) (sym c.apart-right.ensures.same)
    (gets_all g.V.Keeps _ _ c.apart-right.result.0 c.get-right.result c.taken.result.1 c.args.key
    (omega (arith, same, near)) c.apart-right.ensures.rest c.get-right.ensures.owner
    c.taken.ensures.held.0 c.taken.ensures.held.1 c.taken.result.0 c.taken.ensures.pass)

pub returns-clause-made : goal.returns-clause-made
returns-clause-made g c =
    let got = c.get-right.ensures.owner in
    adds_at (λ t. GetTrace t c.args.key) c.args.pass c.taken.result.0 c.apart-right.result.0 c.get-right.result got.did
    c.apart-right.ensures.same c.taken.ensures.pass
    (ap (λ (r : LotStanding g.row.V.Denot). r.did) got.is) got.got

pub returns-clause-ran : goal.returns-clause-ran
returns-clause-ran g c =
    let letters = λ (p : PassView g.row.V.Denot). letters_in p.made in
    elim c.get-right.ensures.ran [
      | inl none ↦ inl (ap letters c.taken.ensures.pass ∙ (none ∙ sym (ap letters c.apart-right.ensures.same)))
      | inr ran ↦ inr ran
    ]
