use Rattle.std.proofs.Common.{◌≡◌, ℕ, [], get_or, map, length}
use Rattle.lot_core.proofs.lines.Lines.new.Given as goal

abbrev pub invariant-loop : goal.invariant-loop
invariant-loop l = (length l.lines.items ≡ l.counter) × ((i : ℕ) → get_or (map (λ q. q.items) l.lines.items) i [] ≡ [])
