use Rattle.std.proofs.Common.{◌≤◌}
use Rattle.lot_trials.specs.declared.accounts.Account.{Account}
use Rattle.lot_sync.proofs.Holdings.{left_second}
use Rattle.lot_trials.proofs.accounts.release_first.Goals as goal

pub returns-clause-holding : goal.returns-clause-holding
returns-clause-holding g c =
    left_second (λ (x y : Account). (x.paid_in ≤ y.paid_in) × (x.paid_out ≤ y.paid_out)) c.args.pass c.unlock-pass.result.0
    c.args.first c.args.second
    c.requires.both c.unlock-pass.ensures.pass
