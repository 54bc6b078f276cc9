use Rattle.std.proofs.Common.{◌≡◌, ◌+◌, vec_len, vec_capacity}
use Rattle.lot_table.proofs.Roots.{AreTaking}
use Rattle.lot_table.proofs.closing.hand_out.Given as goal

abbrev pub invariant-loop-key : goal.invariant-loop-key
invariant-loop-key g l = record {
  taking : AreTaking g.R.Root.view l.key l.fn.buckets l.buckets l.fn.out.items l.out.items;
  count : vec_len l.out ≡ vec_len l.fn.out + l.key;
  capacity : vec_capacity l.out ≡ vec_capacity l.fn.out;
}
