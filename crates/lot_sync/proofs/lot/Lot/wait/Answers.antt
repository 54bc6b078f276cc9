use Rattle.std.proofs.Common.{rules}
use Rattle.lot_sync.proofs.lot.Lot.wait.Goals as goal

pub returns-clause-gets : goal.returns-clause-gets
returns-clause-gets g c = search rules

pub returns-clause-made : goal.returns-clause-made
returns-clause-made g c = search rules
