use Rattle.std.proofs.Common.{ℕ, ◌≤◌}
use Rattle.lot_table.specs.Buckets.{MayRegrow}
use Rattle.lot_table.proofs.Moving.{AreMoved}
use Rattle.lot_table.proofs.moves.regrow.Given as goal

abbrev pub invariant-loop-key : goal.invariant-loop-key
invariant-loop-key g l = record {
  within : (n : ℕ) → MayRegrow g.R.Root.view n l.fn.old l.fn.new → l.key ≤ n;
  moved : AreMoved l.key l.fn.old l.fn.new l.old l.new;
}
