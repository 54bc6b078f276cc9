use Rattle.lot_journal.proofs.Legal.{legal_settles}
use Rattle.lot_journal.proofs.laws.the_history_settles_the_object.Goals as goal

pub returns : goal.returns
returns g c = legal_settles g.O.Sequential.after g.O.Sequential.reply
