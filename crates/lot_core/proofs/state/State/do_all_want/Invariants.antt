use Rattle.std.proofs.Common.{ℕ, ◌<◌, ◌≡◌}
use Rattle.std.specs.Prelude.{slice_get, Some}
use Rattle.lot_events.specs.declared.events.Point.TheVariants.{Wants}
use Rattle.lot_core.specs.State.{state_of}
use Rattle.lot_core.proofs.state.State.do_all_want.Given as goal

abbrev pub invariant-loop-place : goal.invariant-loop-place
invariant-loop-place l =
    (i t : ℕ) → i < l.place → slice_get ((state_of l.self).locks.line l.lock) i ≡ Some t → (state_of l.self).point t ≡ Wants l.lock
