use Rattle.std.proofs.Common.{sym, subst}
use Rattle.lot_waits.specs.Counts.{counts_in}
use Rattle.lot_waits.specs.Notifying.{one_if}
use Rattle.lot_sync.specs.Traces.{NotifyTrace}
use Rattle.lot_sync.proofs.Calls.{TookMore, among_conds, kept_called, took_some, rests_called, sees_more, sees_called_one}
use Rattle.lot_sync.proofs.lot.Lot.notify_one.Goals as goal

pub at_rest-requires-clause-rest : goal.at_rest-requires-clause-rest
at_rest-requires-clause-rest g c κs within =
    rests_called _ _ (λ t. NotifyTrace t c.args.cond 1 (one_if c.notify_one-right.result.1)) c.apart-right.result.0
    c.notify_one-right.result.0 c.args.cond (one_if c.notify_one-right.result.1)
    (took_some c.apart-right.result.0 c.notify_one-right.result.0 c.args.cond 1
    (one_if c.notify_one-right.result.1) c.notify_one-right.ensures.pass)
    c.apart-right.ensures.rest

pub at_rest-requires-clause-kept : goal.at_rest-requires-clause-kept
at_rest-requires-clause-kept g c κs within =
    kept_called c.self.invariant.own_locks
    (subst
    (λ k. TookMore (λ t. NotifyTrace t c.args.cond 1 (one_if c.notify_one-right.result.1))
    c.apart-right.result.0 c.args.cond k c.notify_one-right.result.0) (sym c.number_of.ensures)
    (took_some c.apart-right.result.0 c.notify_one-right.result.0 c.args.cond 1
    (one_if c.notify_one-right.result.1) c.notify_one-right.ensures.pass))
    c.apart-right.ensures.kept
    (c.count_taken-tallies.ensures g.N.LotName.conds (counts_in c.apart-right.result.0)
    (among_conds c.args.self.now c.self.invariant.own_locks c.parking.ensures.keys.0 c.parking.ensures.keys.1 c.requires.cond))

pub returns-clause-counted : goal.returns-clause-counted
returns-clause-counted g c =
    sees_called_one (λ t. NotifyTrace t c.args.cond 1 (one_if c.notify_one-right.result.1)) c.apart-right.result.0
    c.notify_one-right.result.0 c.at_rest.result c.args.pass c.args.cond c.notify_one-right.result.1
    c.apart-right.ensures.same c.at_rest.ensures.pass
    (took_some c.apart-right.result.0 c.notify_one-right.result.0 c.args.cond 1
    (one_if c.notify_one-right.result.1) c.notify_one-right.ensures.pass)

pub returns-clause-made : goal.returns-clause-made
returns-clause-made g c =
    (sees_more (λ t. NotifyTrace t c.args.cond 1 (one_if c.notify_one-right.result.1)) c.apart-right.result.0 c.notify_one-right.result.0
    c.at_rest.result c.args.pass c.args.cond
    (one_if c.notify_one-right.result.1) c.apart-right.ensures.same c.at_rest.ensures.pass
    (took_some c.apart-right.result.0 c.notify_one-right.result.0 c.args.cond 1
    (one_if c.notify_one-right.result.1) c.notify_one-right.ensures.pass)).1
