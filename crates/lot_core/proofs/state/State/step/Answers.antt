use Rattle.std.proofs.Common.{rules}
use Rattle.lot_core.proofs.state.State.step.Goals as goal

pub returns-in-Look : goal.returns-in-Look
returns-in-Look c = search rules
