use Rattle.lot_core.specs.State.{state_of}
use Rattle.lot_core.proofs.Soundness.{enlisted_waits}
use Rattle.lot_core.proofs.state.State.is_waiting.Goals as goal

pub returns-in-Bed : goal.returns-in-Bed
returns-in-Bed c =
    enlisted_waits (state_of c.args.self.now).point c.args.thread c.args.cond c.in-Bed.waited c.point.result c.point.ensures c.in-Bed.is
