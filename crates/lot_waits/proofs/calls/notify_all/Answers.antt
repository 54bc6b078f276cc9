use Rattle.lot_waits.proofs.Notified.{may_sweep, notified_all}
use Rattle.lot_waits.proofs.Told.{told_at_once, told_all}
use Rattle.lot_waits.proofs.calls.notify_all.Goals as goal

pub sweep_line-requires-clause-may : goal.sweep_line-requires-clause-may
sweep_line-requires-clause-may g c κs within = (
  (c.requires.cond.0, c.requires.cond.1),
  may_sweep c.args.pass c.look-pass.result.0 c.lower-pass.result c.args.cond c.look-pass.result.1 c.requires.idle
      c.look-pass.ensures c.lower-pass.ensures,
)

pub returns-then-not-waits-clause-taken : goal.returns-then-not-waits-clause-taken
returns-then-not-waits-clause-taken g c =
    told_at_once c.args.pass c.look-pass.result.0 c.args.cond c.look-pass.result.1 c.requires.idle c.if-not-waits.true c.look-pass.ensures

pub returns-clause-taken : goal.returns-clause-taken
returns-clause-taken g c =
    told_all c.args.pass c.sweep_line.result.0 c.args.cond c.sweep_line.result.1 c.requires.idle
    (notified_all c.args.pass c.look-pass.result.0 c.lower-pass.result c.sweep_line.result.0 c.args.cond c.sweep_line.result.1
    c.look-pass.result.1 c.requires.idle c.if-not-waits.false
    c.look-pass.ensures c.lower-pass.ensures c.sweep_line.ensures)
