use Rattle.lot_sems.proofs.Running.{run_sound}
use Rattle.lot_sems.proofs.laws.every_run_is_sound.Goals as goal

pub returns : goal.returns
returns c = run_sound
