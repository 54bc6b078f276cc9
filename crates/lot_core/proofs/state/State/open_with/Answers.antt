use Rattle.std.proofs.Common.{rules}
use Rattle.lot_core.proofs.state.State.open_with.Goals as goal

pub returns-then-not-is_within_limits : goal.returns-then-not-is_within_limits
returns-then-not-is_within_limits c = search rules
