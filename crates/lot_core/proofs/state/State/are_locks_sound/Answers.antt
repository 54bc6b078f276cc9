use Rattle.std.proofs.Common.{arith, refl}
use Rattle.lot_core.proofs.Soundness.{all_locks}
use Rattle.lot_core.proofs.state.State.are_locks_sound.Goals as goal

pub returns : goal.returns
returns c = ((λ e. all_locks c.args.self.now (λ k within. c.loop-lock.invariant k (omega arith))), (λ each. refl))
