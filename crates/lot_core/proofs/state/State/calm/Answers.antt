use Rattle.std.proofs.Common.{sym, ap, ℕ, ◌≤◌, length, arith}
use Rattle.lot_events.specs.declared.events.Point.{Point}
use Rattle.lot_events.specs.declared.events.Point.TheVariants.{Calm}
use Rattle.lot_core.specs.State.{state_of}
use Rattle.lot_core.specs.Model.{StateView}
use Rattle.lot_core.proofs.Rows.{row_put_past}
use Rattle.lot_core.proofs.state.State.calm.Goals as goal

pub returns-else-is_thread : goal.returns-else-is_thread
returns-else-is_thread c =
    let w = state_of c.args.self.now in
    let past : length c.args.self.now.points.items ≤ c.args.thread = grind (arith, c.is_thread.ensures.1) in
    ap (λ (p : ℕ → Point). let v : StateView = record w { point = p } in v)
    (sym (row_put_past Calm c.args.self.now.points.items c.args.thread past))
