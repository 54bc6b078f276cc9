use Rattle.lot_core.proofs.Law.{runs_are_sound}
use Rattle.lot_core.proofs.laws.every_run_is_sound.Goals as goal

pub returns : goal.returns
returns c = runs_are_sound
