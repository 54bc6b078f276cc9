use Rattle.std.proofs.Common.{arith}
use Rattle.std.proofs.lemmas.Option.{slice_get_within}
use Rattle.lot_load.proofs.replay.run_script.Goals as goal

pub overflow_add-before : goal.overflow_add-before
overflow_add-before c =
    let refused = c.in-Err.ensures.err.2 in
    omega (
      arith,
      slice_get_within c.as_slice.result.now c.in-Err.before refused.0 refused.1,
      c.as_slice.ensures.len,
      c.args.script.now.events.ok,
      c.args.script.now.events.small,
    )
