use Rattle.std.proofs.Common.{sym, subst, ap, arith}
use Rattle.lot_waits.specs.Counts.{AreKept, counts_in, one_wait_more as counts_one_wait_more}
use Rattle.lot_order.specs.Order.{MayWait}
use Rattle.lot_scheme.specs.Standing.{LotStanding}
use Rattle.lot_sync.specs.Lot.{keys_of, letting_go, one_wait_more as view_one_wait_more}
use Rattle.lot_sync.specs.Passes.{pass_view_of}
use Rattle.lot_sync.specs.Values.{Gets}
use Rattle.lot_sync.specs.Traces.{Adds, WaitedTrace}
use Rattle.lot_sync.proofs.Below.{may_wait}
use Rattle.lot_sync.proofs.Adding.{adds_at}
use Rattle.lot_sync.proofs.Calls.{owns_waited, gets_waited}
use Rattle.lot_sync.proofs.lot.Lot.wait_after.Goals as goal

pub wait-right-requires-clause-above : goal.wait-right-requires-clause-above
wait-right-requires-clause-above g c κs within =
    may_wait g.V.Keeps.above c.given_back-right.result.0 c.args.cond c.key-key.result
    (subst (λ p. MayWait g.V.Keeps.above (keys_of p) c.args.cond c.key-key.result) (sym c.given_back-right.ensures.same)
    (subst (λ k. MayWait g.V.Keeps.above (keys_of c.args.pass) c.args.cond k) (sym c.key-key.ensures) c.requires.above))

pub taken-requires-clause-owner : goal.taken-requires-clause-owner
taken-requires-clause-owner g c κs within =
    let b = c.given_back-right.ensures in
    owns_waited g.V.Keeps _ c.given_back-right.result.0 c.wait-right.result.0 c.args.cond c.key-key.result
    c.args.held.value c.wait-right.result.1
    b.locks b.owner b.lies b.grown c.wait-right.ensures.waited

pub taken-requires-clause-kept : goal.taken-requires-clause-kept
taken-requires-clause-kept g c κs within =
    let own = c.self.invariant.own_locks in
    let locks = c.parking.ensures.keys.0 in
    let conds = c.parking.ensures.keys.1 in
    let from = c.requires.cond.0 in
    let below = c.requires.cond.1 in
    subst
    (λ n. AreKept g.N.LotName.locks g.N.LotName.conds n c.count_wait-tallies.result.value.called.items
    c.count_wait-tallies.result.value.woken.items)
    (sym (ap counts_in c.wait-right.ensures.waited.is))
    (subst
    (λ n. AreKept n g.N.LotName.conds (counts_one_wait_more (counts_in c.given_back-right.result.0) c.args.cond)
    c.count_wait-tallies.result.value.called.items c.count_wait-tallies.result.value.woken.items) own
    (c.count_wait-tallies.ensures g.N.LotName.conds (counts_in c.given_back-right.result.0)
    (omega (arith, own, locks, from), omega (arith, own, locks, below, conds))
    (subst
    (λ n. AreKept n g.N.LotName.conds (counts_in c.given_back-right.result.0) c.given_back-right.result.1.value.called.items
    c.given_back-right.result.1.value.woken.items) (sym own)
    c.given_back-right.ensures.kept)))

pub returns-clause-gets : goal.returns-clause-gets
returns-clause-gets g c =
    let b = c.given_back-right.ensures in
    subst
    (λ p. Gets g.V.Keeps (view_one_wait_more (letting_go p c.args.held.key c.args.held.value) c.args.cond) c.args.held.key c.taken.result.1
    c.taken.result.0) b.same
    (subst
    (λ k. Gets g.V.Keeps (view_one_wait_more (letting_go (pass_view_of c.given_back-right.result.0) k c.args.held.value) c.args.cond) k
    c.taken.result.1 c.taken.result.0) c.key-key.ensures
    (gets_waited g.V.Keeps _ c.given_back-right.result.0 c.wait-right.result.0 c.taken.result.1 c.args.cond c.key-key.result
    c.args.held.value c.wait-right.result.1
    b.locks b.owner b.lies c.wait-right.ensures.waited c.taken.ensures.held.0 c.taken.ensures.held.1 c.taken.result.0 c.taken.ensures.pass))

pub returns-clause-made : goal.returns-clause-made
returns-clause-made g c =
    let w = c.wait-right.ensures.waited in
    subst
    (λ k. Adds c.args.pass.made (WaitedTrace c.args.pass.thread c.args.cond k c.args.moment.now) c.taken.result.0.made) c.key-key.ensures
    (adds_at (λ t. WaitedTrace t c.args.cond c.key-key.result c.args.moment.now) c.args.pass c.taken.result.0 c.given_back-right.result.0
    c.wait-right.result.0 w.did
    (sym c.given_back-right.ensures.same) c.taken.ensures.pass (ap (λ (r : LotStanding g.row.V.Denot). r.did) w.is)
    (c.wait-right.result.1, c.wait-right.ensures.fits, w.trace))
