use Rattle.std.proofs.Common.{arith, refl, below_more}
use Rattle.lot_core.proofs.Soundness.{all_conds}
use Rattle.lot_core.proofs.state.State.are_conds_sound.Goals as goal

pub returns : goal.returns
returns c = ((λ e. all_conds c.args.self.now (λ k within. c.loop-i.invariant k (omega arith))), (λ each. refl))

pub loop-i-preserved : goal.loop-i-preserved
loop-i-preserved c = below_more _ _ c.loop-i.invariant (c.is_sound_cond.ensures.0 (cc))
