use Rattle.std.proofs.Common.{◌<◌, vec_len}
use Rattle.lot_sync.proofs.pool.Pool.take_least.Given as goal

abbrev pub invariant-loop-place : goal.invariant-loop-place
invariant-loop-place g l = l.least < vec_len l.self-inside.idle
