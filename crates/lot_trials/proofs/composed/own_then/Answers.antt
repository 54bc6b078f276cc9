use Rattle.std.proofs.Common.{refl, le_refl}
use Rattle.lot_sync.proofs.Holdings.{may_go_back}
use Rattle.lot_calls.proofs.Waiting.{after_holds}
use Rattle.lot_trials.proofs.composed.own_then.Goals as goal

pub wait_until-requires-clause-back : goal.wait_until-requires-clause-back
wait_until-requires-clause-back g c κs within =
    let gets = c.lock-pass.ensures.gets in
    may_go_back _ c.args.pass c.lock-pass.result.0 0 c.lock-pass.result.1 c.lock-pass.result.1.value gets tt (le_refl _) (λ t else. refl)

pub returns-clause-holding : goal.returns-clause-holding
returns-clause-holding g c =
    after_holds _ _ c.args.pass c.lock-pass.result.0 c.wait_until.result.0 0 1 0 c.lock-pass.result.1 c.wait_until.result.1
    c.requires.free c.lock-pass.ensures.gets c.wait_until.ensures.waits
