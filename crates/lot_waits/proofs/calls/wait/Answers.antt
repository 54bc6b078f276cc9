use Rattle.std.proofs.Common.{◌<◌, sym, subst}
use Rattle.lot_waits.specs.Waiting.{MayEnlist, HasWaited}
use Rattle.lot_waits.proofs.Waited.{Rested, rested, same_thread, takes, has_waited}
use Rattle.lot_waits.proofs.Told.{idle_waited, counts_waited}
use Rattle.lot_waits.proofs.calls.wait.Given.{Over}
use Rattle.lot_waits.proofs.calls.wait.Goals.{After-sleep_on-pass}
use Rattle.lot_waits.proofs.calls.wait.Goals as goal

may_enlist : (g : Over) (c : After-sleep_on-pass g) → MayEnlist g.V.Keeps.above g.N.LotName.locks g.N.LotName.first_sem c.args.pass
    c.args.cond c.args.lock
may_enlist g c = record {
  cond = (c.requires.cond.0, c.requires.cond.1);
  lock = c.requires.lock.0;
  idle = c.requires.idle;
  holds = c.requires.holds;
  lies = c.requires.lies;
  below = c.requires.above;
}

-- it slept, and rests
slept : (g : Over) (c : After-sleep_on-pass g) → Rested c.args.pass c.args.cond c.args.lock c.sleep_on-pass.result.1
    c.sleep_on-pass.result.0
slept g c =
    rested g.V.Keeps g.N.LotName.locks g.N.LotName.first_sem c.args.pass c.sleep_on-pass.result.0 c.args.cond c.args.lock
    c.sleep_on-pass.result.1 (may_enlist g c) c.sleep_on-pass.ensures.slept

pub get-requires-clause-thread : goal.get-requires-clause-thread
get-requires-clause-thread g c κs within =
    let at = (goal.at.get-requires-clause-thread g c).After-sleep_on-pass in
    subst (λ n. n < c.args.parking.now.threads)
    (sym (same_thread c.args.pass c.sleep_on-pass.result.0 c.args.cond c.args.lock c.sleep_on-pass.result.1 (slept g at)))
    c.requires.thread

pub get-requires-clause-may : goal.get-requires-clause-may
get-requires-clause-may g c κs within =
    let at = (goal.at.get-requires-clause-may g c).After-sleep_on-pass in
    takes g.V.Keeps.above g.N.LotName.locks g.N.LotName.first_sem c.args.pass c.sleep_on-pass.result.0 c.args.cond c.args.lock
    c.sleep_on-pass.result.1 (may_enlist g at) (slept g at)

pub returns : goal.returns
returns g c =
    let p = c.args.pass in
    let became = c.sleep_on-pass.result.1 in
    let whole : HasWaited g.V.Keeps p c.args.cond c.args.lock became c.get.result =
    has_waited g.V.Keeps p c.sleep_on-pass.result.0 c.get.result c.args.cond c.args.lock became
    (slept g (goal.at.returns g c).After-sleep_on-pass) c.get.ensures.owner in
    record {
      waited = whole;
      idle = idle_waited g.V.Keeps p c.get.result c.args.cond c.args.lock became c.requires.idle whole;
      counts = counts_waited g.V.Keeps p c.get.result c.args.cond c.args.lock became whole;
      fits = c.sleep_on-pass.ensures.fits;
      acted = c.sleep_on-pass.ensures.acted;
    }
