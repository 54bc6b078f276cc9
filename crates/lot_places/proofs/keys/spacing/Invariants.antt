use Rattle.std.proofs.Common.{◌≡◌, ℕ, ◌+◌, ◌*◌, ◌<◌, get_or}
use Rattle.lot_places.proofs.keys.spacing.Given as goal

abbrev pub invariant-loop-place : goal.invariant-loop-place
invariant-loop-place l = (j : ℕ) → j < l.place → get_or l.keys j 0 ≡ get_or l.keys 0 0 + j * l.step
