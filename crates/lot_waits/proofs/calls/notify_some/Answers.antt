use Rattle.lot_waits.proofs.Notified.{notified}
use Rattle.lot_waits.proofs.Told.{told_at_once, told_some}
use Rattle.lot_waits.proofs.calls.notify_some.Goals as goal

pub returns-then-not-waits-clause-taken : goal.returns-then-not-waits-clause-taken
returns-then-not-waits-clause-taken g c =
    told_at_once c.args.pass c.look-pass.result.0 c.args.cond c.look-pass.result.1 c.requires.idle c.if-not-waits.true c.look-pass.ensures

pub returns-clause-taken : goal.returns-clause-taken
returns-clause-taken g c =
    told_some c.args.pass c.call_some.result.0 c.args.cond c.args.count c.call_some.result.1 c.requires.idle
    (notified c.args.pass c.look-pass.result.0 c.call_some.result.0 c.args.cond c.args.count c.call_some.result.1 c.look-pass.result.1
    c.if-not-waits.false c.look-pass.ensures
    c.call_some.ensures.pass)
