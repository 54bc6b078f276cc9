use Rattle.std.proofs.Common.{arith, refl}
use Rattle.lot_core.proofs.Soundness.{all_semaphores}
use Rattle.lot_core.proofs.state.State.are_semaphores_sound.Goals as goal

pub returns : goal.returns
returns c = ((λ e. all_semaphores c.args.self.now (λ j within. c.loop-i.invariant j (omega arith))), (λ each. refl))
