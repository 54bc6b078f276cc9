use Rattle.lot_rights.proofs.Settling.{seats_show}
use Rattle.lot_rights.proofs.laws.seats_show_what_their_rights_show.Goals as goal

pub returns : goal.returns
returns g c key = seats_show (g.K.Kind.meaning key)
