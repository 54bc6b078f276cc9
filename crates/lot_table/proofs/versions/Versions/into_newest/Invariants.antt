use Rattle.std.proofs.Common.{◌<◌, IfSome, vec_len}
use Rattle.lot_table.proofs.versions.Versions.into_newest.Given as goal

abbrev pub decreases-loop-cell : goal.decreases-loop-cell
decreases-loop-cell g l = vec_len l.later

abbrev pub invariant-loop-cell : goal.invariant-loop-cell
invariant-loop-cell g l = record { above : IfSome l.newest (λ n. vec_len l.later < n.number) }
