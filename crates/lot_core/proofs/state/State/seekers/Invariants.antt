use Rattle.std.proofs.Common.{◌≡◌, ◌≤◌}
use Rattle.lot_core.specs.Sums.{count_below}
use Rattle.lot_core.specs.Parts.{sought}
use Rattle.lot_core.specs.Sound.{is_seeking}
use Rattle.lot_core.specs.State.{state_of}
use Rattle.lot_core.proofs.state.State.seekers.Given as goal

abbrev pub invariant-loop-thread : goal.invariant-loop-thread
invariant-loop-thread l =
    let w = state_of l.self in
    (l.count ≤ l.thread) × (l.count ≡ count_below l.thread (λ t. is_seeking (sought (w.point t)) l.sem (w.sems.line l.sem) t))
