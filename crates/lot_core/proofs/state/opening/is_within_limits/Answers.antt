use Rattle.std.proofs.Common.{rules}
use Rattle.lot_core.proofs.state.opening.is_within_limits.Goals as goal

pub returns-then-conds-locks : goal.returns-then-conds-locks
returns-then-conds-locks c = search rules
