use Rattle.std.proofs.Common.{arith}
use Rattle.base_trials.proofs.Calm.{trying, tried_wants}
use Rattle.base_trials.proofs.kinds.locks.OnGated.park_in_vain.Goals as goal

pub park-pass-requires-clause-parks : goal.park-pass-requires-clause-parks
park-pass-requires-clause-parks g c κs within =
    let two = c.args.self.now.small.0.0 in
    trying g.N.LotName.locks c.requires.pass.0 0 c.args.pass (omega (arith, two)) c.requires.pass.1

pub returns : goal.returns
returns g c = λ t wants. tried_wants g.N.LotName.locks t 0 c.args.pass c.park-pass.result.0 wants
    (rw c.parked_is.ensures at c.park-pass.ensures.ends)
