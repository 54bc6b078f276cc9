use Rattle.lot_rights.proofs.Settling.{one_entry}
use Rattle.lot_rights.proofs.laws.one_entry_is_one_access.Goals as goal

pub returns : goal.returns
returns g c key = one_entry (g.K.Kind.meaning key) (g.K.Kind.one_outcome key)
