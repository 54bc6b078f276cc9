use Rattle.std.proofs.Common.{arith}
use Rattle.lot_trials.proofs.Counting.{both_threads}
use Rattle.lot_trials.proofs.OneRun.{whole_run, both_released}
use Rattle.lot_trials.proofs.runs.turn_and_close.Goals as goal

pub returns-clause-run : goal.returns-clause-run
returns-clause-run g c =
    let one = c.work_both-first.ensures.one in
    let other = c.work_both-first.ensures.other in
    whole_run _ _ c.close_both.ensures.history
    (both_released c.work_both-first.result.0 c.work_both-first.result.1 one.released other.released)
    (λ t near. both_threads c.work_both-first.result.0 c.work_both-first.result.1 (omega (arith, one.same, c.requires.threads.0))
    (omega (arith, other.same, c.requires.threads.1)) c.close_both.ensures.apart t (omega (arith, near, c.requires.sizes.1)))
