use Rattle.std.proofs.Common.{ℕ, ◌<◌, ◌≡◌}
use Rattle.std.specs.Prelude.{slice_get}
use Rattle.lot_core.specs.Lines.{line_of}
use Rattle.lot_core.proofs.lines.Lines.is_again.Given as goal

abbrev pub invariant-loop-i : goal.invariant-loop-i
invariant-loop-i l = (k : ℕ) → k < l.i → slice_get (line_of l.self l.key) k ≡ slice_get (line_of l.self l.key) l.place → ⊥
