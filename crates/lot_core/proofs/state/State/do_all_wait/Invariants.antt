use Rattle.std.proofs.Common.{ℕ, ◌<◌, ◌≡◌}
use Rattle.std.specs.Prelude.{slice_get, Some}
use Rattle.lot_core.specs.Sound.{Waits}
use Rattle.lot_core.specs.State.{state_of}
use Rattle.lot_core.proofs.state.State.do_all_wait.Given as goal

abbrev pub invariant-loop-place : goal.invariant-loop-place
invariant-loop-place l =
    (i t : ℕ) → i < l.place → slice_get ((state_of l.self).conds.line l.cond) i ≡ Some t → Waits (state_of l.self).point l.cond t
