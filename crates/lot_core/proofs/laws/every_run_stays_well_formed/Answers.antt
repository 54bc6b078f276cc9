use Rattle.lot_core.proofs.WellFormed.{opening_formed, event_formed, reached_formed}
use Rattle.lot_core.proofs.laws.every_run_stays_well_formed.Goals as goal

pub returns : goal.returns
returns c = record { opening = opening_formed; event = event_formed; reached = reached_formed }
