use Rattle.std.proofs.Common.{ℕ, ◌<◌, ◌≡◌}
use Rattle.std.specs.Prelude.{slice_get}
use Rattle.lot_core.specs.Lines.{line_of}
use Rattle.lot_core.proofs.lines.Lines.is_once.Given as goal

abbrev pub invariant-loop-place : goal.invariant-loop-place
invariant-loop-place l =
    (k : ℕ) → k < l.place → (i : ℕ) → i < k → slice_get (line_of l.self l.key) i ≡ slice_get (line_of l.self l.key) k → ⊥
