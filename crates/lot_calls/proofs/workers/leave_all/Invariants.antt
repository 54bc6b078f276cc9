use Rattle.std.proofs.Common.{◌≡◌, vec_len, vec_capacity}
use Rattle.std.specs.List.{All}
use Rattle.lot_calls.specs.Workers.{MayLeave}
use Rattle.lot_calls.proofs.workers.leave_all.Given as goal

abbrev pub invariant-loop-pass : goal.invariant-loop-pass
invariant-loop-pass g l = record {
  capacity : vec_capacity l.passes ≡ vec_capacity l.initial.passes;
  leave : All (MayLeave g.V.Keeps) l.passes.items;
}

abbrev pub decreases-loop-pass : goal.decreases-loop-pass
decreases-loop-pass g l = vec_len l.passes
