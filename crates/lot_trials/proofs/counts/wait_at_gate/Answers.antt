use Rattle.std.proofs.Common.{◌≤◌}
use Rattle.lot_trials.specs.declared.counts.Count.{Count}
use Rattle.lot_sync.specs.Lot.{letting_go, one_wait_more}
use Rattle.lot_sync.proofs.Holdings.{got_holds, left_all}
use Rattle.lot_trials.proofs.counts.wait_at_gate.Goals as goal

pub returns-clause-holding : goal.returns-clause-holding
returns-clause-holding g c =
    let left = left_all (λ (x y : Count). x.n ≤ y.n) c.args.pass c.args.held c.requires.holding in
    got_holds _ (one_wait_more (letting_go c.args.pass c.args.held.key c.args.held.value) c.args.cond) c.wait_after-pass.result.0
    c.args.held.key c.wait_after-pass.result.1
    (record { no_lock = left.no_lock; no_permit = left.no_permit }) c.wait_after-pass.ensures.gets
