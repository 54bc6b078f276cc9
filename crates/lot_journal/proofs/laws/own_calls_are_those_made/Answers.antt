use Rattle.lot_journal.proofs.Legal.{only_others}
use Rattle.lot_journal.proofs.laws.own_calls_are_those_made.Goals as goal

pub returns : goal.returns
returns g c = only_others
