use Rattle.std.proofs.Common.{ℕ, ◌<◌, ◌≡◌}
use Rattle.lot_events.specs.declared.events.Point.TheVariants.{Sweeps}
use Rattle.lot_core.specs.State.{state_of}
use Rattle.lot_core.proofs.state.State.someone_sweeps.Given as goal

abbrev pub invariant-loop-thread : goal.invariant-loop-thread
invariant-loop-thread l = (t : ℕ) → t < l.thread → (state_of l.self).point t ≡ Sweeps l.cond → ⊥
