use Rattle.lot_rights.proofs.Settling.{no_entry}
use Rattle.lot_rights.proofs.laws.no_entry_is_none.Goals as goal

pub returns : goal.returns
returns g c key = no_entry (g.K.Kind.meaning key) (g.K.Kind.one_outcome key)
