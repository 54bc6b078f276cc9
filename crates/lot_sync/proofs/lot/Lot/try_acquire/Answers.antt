use Rattle.lot_sync.proofs.Calls.{sees_tried}
use Rattle.lot_sync.proofs.lot.Lot.try_acquire.Goals as goal

pub returns-clause-tries : goal.returns-clause-tries
returns-clause-tries g c =
    (sees_tried c.apart-right.result.0 c.try_acquire-right.result.0 c.at_rest.result c.args.pass c.args.key c.try_acquire-right.result.1
    c.apart-right.ensures.same c.at_rest.ensures.pass c.try_acquire-right.ensures.tries).0

pub returns-clause-made : goal.returns-clause-made
returns-clause-made g c =
    (sees_tried c.apart-right.result.0 c.try_acquire-right.result.0 c.at_rest.result c.args.pass c.args.key c.try_acquire-right.result.1
    c.apart-right.ensures.same c.at_rest.ensures.pass c.try_acquire-right.ensures.tries).1
