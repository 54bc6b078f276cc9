use Rattle.std.proofs.Common.{ap}
use Rattle.lot_sync.specs.Lot.{PassView}
use Rattle.lot_sync.proofs.Below.{got_waits}
use Rattle.lot_calls.proofs.Visiting.{finds_got}
use Rattle.lot_calls.proofs.Waiting.{got_after, is_after, after_holds, made_until}
use Rattle.lot_calls.proofs.until.lock_until.Goals as goal

pub wait_until-requires-clause-above : goal.wait_until-requires-clause-above
wait_until-requires-clause-above g c κs within =
    got_waits g.V.Keeps c.args.pass c.lock-pass.result.0 c.args.key c.lock-pass.result.1 c.lock-pass.ensures.gets c.args.cond
    c.requires.above.0 c.requires.above.1

pub returns-clause-gets : goal.returns-clause-gets
returns-clause-gets g c =
    got_after g.V.Keeps _ c.args.pass c.lock-pass.result.0 c.wait_until.result.0 c.args.key c.args.cond c.args.moment.now
    c.lock-pass.result.1 c.wait_until.result.1
    c.lock-pass.ensures.gets c.wait_until.ensures.waits

pub returns-clause-holding : goal.returns-clause-holding
returns-clause-holding g c =
    λ none. after_holds g.V.Keeps _ c.args.pass c.lock-pass.result.0 c.wait_until.result.0 c.args.key c.args.cond
    c.args.moment.now c.lock-pass.result.1
    c.wait_until.result.1 none c.lock-pass.ensures.gets c.wait_until.ensures.waits

pub returns-clause-made : goal.returns-clause-made
returns-clause-made g c =
    let gets = c.lock-pass.ensures.gets in
    let waits = c.wait_until.ensures.waits in (
      waits.count,
      made_until c.args.pass c.lock-pass.result.0 c.wait_until.result.0 c.args.key c.lock-pass.result.1.key c.args.cond c.args.moment.now
          waits.count gets.key_is
          (ap (λ (p : PassView g.row.V.Denot). p.thread) gets.after_is) c.lock-pass.ensures.made waits.made,
      (
        c.lock-pass.result.1.value,
        finds_got g.V.Keeps c.args.pass c.lock-pass.result.0 c.args.key c.lock-pass.result.1 gets c.args.lot.now c.requires.key
            c.lock-pass.ensures.shape,
        waits.while,
      ),
      is_after c.args.pass c.lock-pass.result.0 c.wait_until.result.0 c.args.key c.args.cond c.lock-pass.result.1 c.wait_until.result.1
          waits.count gets.key_is gets.after_is waits.after_is waits.same,
    )
