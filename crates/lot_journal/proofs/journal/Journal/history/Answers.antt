use Rattle.std.proofs.Common.{rules}
use Rattle.lot_journal.proofs.journal.Journal.history.Goals as goal

pub returns : goal.returns
returns g c = search rules
