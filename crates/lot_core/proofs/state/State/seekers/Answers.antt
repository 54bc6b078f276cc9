use Rattle.std.proofs.Common.{◌≡◌, ◌+◌, ap, arith}
use Rattle.lot_core.specs.Sums.{bit}
use Rattle.lot_core.specs.State.{state_of}
use Rattle.lot_core.proofs.Sums.{bit_le}
use Rattle.lot_core.proofs.Soundness.{seeking_test, count_more}
use Rattle.lot_core.proofs.state.State.seekers.Goals as goal
use Rattle.lot_core.proofs.state.State.seekers.Goals.{then-is_seeking, else-is_seeking}

pub loop-thread-preserved : goal.loop-thread-preserved
loop-thread-preserved c =
    let so = c.loop-thread.invariant in
    let more : c.if-is_seeking.count ≡ c.loop-thread.count + bit c.is_seeking.result =
    elim c.if-is_seeking.branch [
      | then-is_seeking w ↦ omega (arith, w.count-is, ap bit w.if-is_seeking.true)
      | else-is_seeking w ↦ omega (arith, w.count-is, ap bit w.if-is_seeking.false)
    ] in (
      omega (arith, bit_le c.is_seeking.result, more, so.0),
      count_more c.loop-thread.thread _ c.loop-thread.count _ c.is_seeking.result so.1
          (seeking_test (state_of c.args.self.now) c.loop-thread.thread c.args.sem c.is_seeking.result c.is_seeking.ensures) more,
    )
