use Rattle.std.proofs.Common.{◌≡◌, false}
use Rattle.lot_table.proofs.ensuring.ensure_with.Given as goal

abbrev pub invariant-loop : goal.invariant-loop
invariant-loop g l = record { none : l.growing.has_grown ≡ false }
