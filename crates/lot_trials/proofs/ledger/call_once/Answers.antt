use Rattle.std.proofs.Common.{ap, refl, ◌∙◌}
use Rattle.lot_sync.specs.Lot.{PassView}
use Rattle.lot_trials.proofs.Counting.{ends_called}
use Rattle.lot_trials.proofs.Order.{calls_more, calls_none}
use Rattle.lot_trials.proofs.ledger.call_once.Goals as goal

pub loop-init : goal.loop-init
loop-init g c = record { same = refl; called = calls_none c.args.pass 1 }

pub returns-then-took : goal.returns-then-took
returns-then-took g c =
    let inv = c.loop.invariant in
    let took = rw c.if-took.true at c.notify_one-asked.ensures.counted in
    record {
      ends =
          ends_called c.args.lot.now c.args.pass c.loop.pass c.notify_one-asked.result.0 c.requires.free inv.same took
          c.notify_one-asked.ensures.shape;
      called =
          λ none. calls_more c.loop.pass c.notify_one-asked.result.0 1 _
          (ap (λ (p : PassView _). p.thread) took) c.notify_one-asked.ensures.made (inv.called none);
    }

pub loop-preserved : goal.loop-preserved
loop-preserved g c =
    let inv = c.loop.invariant in
    let left = rw c.if-took.false at c.notify_one-asked.ensures.counted in
    record {
      same = left ∙ ap (λ (p : PassView _). record p { made = c.notify_one-asked.result.0.made }) inv.same;
      called =
          λ none. calls_more c.loop.pass c.notify_one-asked.result.0 1 _
          (ap (λ (p : PassView _). p.thread) left) c.notify_one-asked.ensures.made (inv.called none);
    }
