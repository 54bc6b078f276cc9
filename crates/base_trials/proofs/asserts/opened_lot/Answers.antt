use Rattle.std.proofs.Common.{sym, ◌∙◌}
use Rattle.lot_rights.proofs.Turns.{no_elements}
use Rattle.base_trials.proofs.asserts.opened_lot.Goals as goal

pub returns-clause-empty : goal.returns-clause-empty
returns-clause-empty g c = no_elements _ (sym c.in-Ok.opened.1.ok.0 ∙ c.in-Ok.ensures.room.0)
