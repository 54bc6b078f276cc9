use Rattle.std.proofs.Common.{arith}
use Rattle.lot_waits.proofs.Notified.{may_sweep, notified_all}
use Rattle.lot_waits.proofs.Told.{told_at_once, told_all}
use Rattle.base_trials.proofs.kinds.waiters.sweep_after.Goals as goal

pub take_all-requires-clause-lowered : goal.take_all-requires-clause-lowered
take_all-requires-clause-lowered g c κs within = (
  (omega (arith, c.requires.small.0.0), omega (arith, c.requires.small.0.2)),
  may_sweep c.args.pass c.look-pass.result.0 c.lower-pass.result 2 c.look-pass.result.1 c.requires.idle
      c.look-pass.ensures c.lower-pass.ensures,
)

pub returns-then-not-waits-clause-taken : goal.returns-then-not-waits-clause-taken
returns-then-not-waits-clause-taken g c =
    told_at_once c.args.pass c.look-pass.result.0 2 c.look-pass.result.1 c.requires.idle c.if-not-waits.true c.look-pass.ensures

pub returns-clause-taken : goal.returns-clause-taken
returns-clause-taken g c =
    told_all c.args.pass c.take_all.result.0 2 c.take_all.result.1 c.requires.idle
    (notified_all c.args.pass c.look-pass.result.0 c.lower-pass.result c.take_all.result.0 2 c.take_all.result.1
    c.look-pass.result.1 c.requires.idle c.if-not-waits.false c.look-pass.ensures c.lower-pass.ensures c.take_all.ensures)
