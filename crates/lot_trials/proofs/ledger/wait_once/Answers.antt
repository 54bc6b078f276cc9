use Rattle.std.proofs.Common.{ap, ◌∙◌}
use Rattle.lot_sync.specs.Lot.{PassView}
use Rattle.lot_trials.proofs.Counting.{ends_waited}
use Rattle.lot_trials.proofs.Order.{waits_once}
use Rattle.lot_trials.proofs.ledger.wait_once.Goals as goal

pub returns : goal.returns
returns g c =
    let got = c.lock-pass.ensures.gets in
    let woke = c.wait-pass.ensures.gets in
    let of_q = ap (λ (p : PassView _). p.thread) got.after_is in
    let of_r = ap (λ (p : PassView _). p.thread) woke.after_is ∙ of_q in
    let of_s = ap (λ (p : PassView _). p.thread) c.unlock-pass.ensures.pass ∙ of_r in
    let once =
    waits_once c.args.pass c.lock-pass.result.0 c.wait-pass.result.0 c.unlock-pass.result.0 1 0 c.lock-pass.result.1.key
    c.wait-pass.result.1.key _
    c.unlock-pass.result.1 of_q of_r of_s c.lock-pass.ensures.made c.wait-pass.ensures.made c.unlock-pass.ensures.made in
    record {
      ends = ends_waited _ c.args.lot.now c.args.pass c.lock-pass.result.0 c.wait-pass.result.0 c.unlock-pass.result.0
          c.lock-pass.result.1 c.wait-pass.result.1 c.requires.free got woke c.unlock-pass.ensures.pass c.unlock-pass.ensures.shape;
      waited = once.0;
      none = once.1;
    }
