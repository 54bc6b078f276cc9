use Rattle.std.proofs.Common.{subst}
use Rattle.lot_trials.specs.Runs.{HasWholeRun}
use Rattle.lot_trials.proofs.runs.one_run.Goals as goal

pub returns-clause-run : goal.returns-clause-run
returns-clause-run g c = subst HasWholeRun c.requires.named c.turn_and_close.ensures.run
