use Rattle.lot_rights.proofs.Settling.{rights_settle}
use Rattle.lot_rights.proofs.laws.rights_settle_the_history.Goals as goal

pub returns : goal.returns
returns g c key = rights_settle (g.K.Kind.meaning key) (g.K.Kind.one_outcome key)
