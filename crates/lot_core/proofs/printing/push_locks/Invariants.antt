use Rattle.std.proofs.Common.{◌≡◌, ◌++◌}
use Rattle.std.specs.Prelude.{string_bytes, flat_map}
use Rattle.std.specs.List.{range_with_len}
use Rattle.lot_core.specs.State.{state_of}
use Rattle.lot_core.specs.Printed.{lock_line}
use Rattle.lot_core.proofs.printing.push_locks.Given as goal

abbrev pub invariant-loop-lock : goal.invariant-loop-lock
invariant-loop-lock l = string_bytes l.out ≡ string_bytes l.initial.out ++ flat_map (lock_line (state_of l.state)) (range_with_len 0 l.lock)
