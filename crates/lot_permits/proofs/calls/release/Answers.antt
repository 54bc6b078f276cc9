use Rattle.lot_permits.proofs.Rest.{idle_given}
use Rattle.lot_permits.proofs.calls.release.Goals as goal

pub returns-clause-idle : goal.returns-clause-idle
returns-clause-idle g c = idle_given c.args.pass c.give.result.0 c.into_key-key.result c.give.result.1 c.requires.idle c.give.ensures
