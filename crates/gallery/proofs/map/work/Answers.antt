use Rattle.gallery.proofs.Counting.{one_below}
use Rattle.gallery.proofs.map.work.Goals as goal

pub loop-counter-preserved : goal.loop-counter-preserved
loop-counter-preserved g c =
    let turn = c.loop-counter in
    one_below c.args.lot.now c.args.pass turn.pass c.add-pass.result turn.counter turn.invariant c.add-pass.ensures
