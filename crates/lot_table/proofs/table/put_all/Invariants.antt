use Rattle.std.proofs.Common.{◌≡◌, vec_len, vec_capacity}
use Rattle.lot_table.proofs.Roots.{AreFilling}
use Rattle.lot_table.proofs.table.put_all.Given as goal

abbrev pub invariant-loop-root : goal.invariant-loop-root
invariant-loop-root g l = record {
  filling : AreFilling l.fn.roots.items l.roots.items l.fn.fresh l.fresh;
  room : vec_capacity l.roots ≡ vec_capacity l.fn.roots;
}

abbrev pub decreases-loop-root : goal.decreases-loop-root
decreases-loop-root g l = vec_len l.roots
