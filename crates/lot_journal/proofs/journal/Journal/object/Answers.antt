use Rattle.std.proofs.Common.{rules}
use Rattle.lot_journal.proofs.journal.Journal.object.Goals as goal

pub returns : goal.returns
returns g c = search rules
