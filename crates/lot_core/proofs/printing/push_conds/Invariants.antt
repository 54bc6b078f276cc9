use Rattle.std.proofs.Common.{◌≡◌, ◌++◌}
use Rattle.std.specs.Prelude.{string_bytes, flat_map}
use Rattle.std.specs.List.{range_with_len}
use Rattle.lot_core.specs.State.{state_of}
use Rattle.lot_core.specs.Printed.{cond_line}
use Rattle.lot_core.proofs.printing.push_conds.Given as goal

abbrev pub invariant-loop-i : goal.invariant-loop-i
invariant-loop-i l = string_bytes l.out ≡ string_bytes l.initial.out
    ++ flat_map (cond_line (state_of l.state)) (range_with_len l.state.locks l.i)
