-- How many threads, locks, conditions and semaphores there may be.
use Rattle.std.specs.Prelude.{ℕ, ◌+◌, ◌≤◌}
use Rattle.lot_core.specs.declared.state.TheConstants.{MAX_THREADS, MAX_KEYS}

abbrev pub Limits : ℕ → ℕ → ℕ → ℕ → Type 0
Limits threads locks conds sems =
    (1 ≤ threads) × (threads ≤ MAX_THREADS) × (1 ≤ locks) × (locks + conds + sems ≤ MAX_KEYS)
