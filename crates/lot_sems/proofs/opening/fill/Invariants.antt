use Rattle.std.proofs.Common.{◌≡◌, vec_len}
use Rattle.lot_sems.specs.Opening.{with_permits}
use Rattle.lot_sems.proofs.opening.fill.Given as goal

abbrev pub invariant-loop-i : goal.invariant-loop-i
invariant-loop-i l = record {
  written : l.words.items ≡ with_permits l.initial.words.items l.first_sem l.permits.items l.i;
  len : vec_len l.words ≡ vec_len l.initial.words;
}
