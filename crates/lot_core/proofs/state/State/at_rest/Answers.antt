use Rattle.std.proofs.Common.{rules}
use Rattle.lot_core.proofs.Opening.{opened_with}
use Rattle.lot_core.proofs.state.State.at_rest.Goals as goal

pub returns : goal.returns
returns c =
    let sems = c.in_ok-new-3.ensures {u = tt} in
    opened_with c.args.threads c.args.locks c.args.conds c.args.permits.now
    c.in_ok-vec.field-0.items c.in_ok-vec-2.field-0.items c.in_ok-vec-3.field-0.items c.in_ok-new.field-0 c.in_ok-new-2.field-0
    c.in_ok-vec-4.field-0.items _ _ _
    ((c.in_ok-vec.ensures {u = tt}).items_if_clones_equal (search rules))
    ((c.in_ok-vec-2.ensures {u = tt}).items_if_clones_equal (search rules))
    ((c.in_ok-new.ensures {u = tt}).empty)
    ((c.in_ok-vec-3.ensures {u = tt}).items_if_clones_equal (search rules))
    ((c.in_ok-new-2.ensures {u = tt}).empty)
    ((c.in_ok-vec-4.ensures {u = tt}).items_if_clones_equal (search rules))
    sems.numbers.2 sems.permits sems.sems
