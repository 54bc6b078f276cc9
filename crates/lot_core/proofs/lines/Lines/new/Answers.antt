use Rattle.std.proofs.Common.{arith, refl}
use Rattle.lot_core.proofs.LineRows.{lines_empty, none_begun, one_begun}
use Rattle.lot_core.proofs.lines.Lines.new.Goals as goal

pub loop-init : goal.loop-init
loop-init c = none_begun c.in_ok-lines.lines.items (c.in_ok-lines.ensures {u = tt}).items

pub loop-preserved : goal.loop-preserved
loop-preserved c =
    one_begun c.loop.lines.items _ _ c.loop.counter (c.in_ok-push.ensures {u = tt}).items c.new.ensures.items c.loop.invariant

pub returns-clause-keys : goal.returns-clause-keys
returns-clause-keys c = (refl, omega (arith, c.loop.invariant.0, c.loop.auto.counter-end, c.loop-test.false))

pub returns-clause-empty : goal.returns-clause-empty
returns-clause-empty c = lines_empty (record { low = c.args.low; lines = c.loop.lines }) c.loop.invariant.1
