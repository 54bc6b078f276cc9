use Rattle.lot_rights.proofs.Settling.{has_one_run}
use Rattle.lot_rights.proofs.laws.the_rule_has_one_run.Goals as goal

pub returns : goal.returns
returns g c key = has_one_run (g.K.Kind.meaning key)
