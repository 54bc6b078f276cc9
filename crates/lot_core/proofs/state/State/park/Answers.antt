use Rattle.std.proofs.Common.{rules}
use Rattle.lot_core.proofs.state.State.park.Goals as goal

pub returns-then-not-is_held : goal.returns-then-not-is_held
returns-then-not-is_held c = search rules
