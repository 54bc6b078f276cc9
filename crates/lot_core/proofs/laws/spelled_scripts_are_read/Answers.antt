use Rattle.lot_events.proofs.Spelled.{one_event}
use Rattle.lot_core.proofs.ReadBack.{not_bad, one_script}
use Rattle.lot_core.proofs.laws.spelled_scripts_are_read.Goals as goal

pub returns : goal.returns
returns c = record { read = not_bad; one = one_script; one_event = one_event }
