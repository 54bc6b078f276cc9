use Rattle.std.proofs.Common.{ap, ◌∙◌}
use Rattle.lot_sync.specs.Lot.{PassView}
use Rattle.lot_sync.proofs.Holdings.{owns_none_again}
use Rattle.lot_trials.proofs.OneRun.{released_by}
use Rattle.lot_trials.proofs.runs.Visitor+Number+N+T.turn.Goals as goal

pub returns : goal.returns
returns g c =
    let gets = c.lock-pass.ensures.gets in
    let went = ap (λ (p : PassView _). p.thread) c.unlock-pass.ensures.pass in
    record {
      same = went ∙ ap (λ (p : PassView _). p.thread) gets.after_is;
      free =
          owns_none_again c.args.pass c.lock-pass.result.0 c.unlock-pass.result.0 0 _ c.lock-pass.result.1.value _
          c.requires.free gets.after_is
          c.unlock-pass.ensures.pass gets.key_is;
      released = released_by c.lock-pass.result.0 c.unlock-pass.result.0 _ c.unlock-pass.result.1 went c.unlock-pass.ensures.made;
    }
