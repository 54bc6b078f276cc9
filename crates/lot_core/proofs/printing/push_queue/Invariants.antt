use Rattle.std.proofs.Common.{◌≡◌, ◌++◌, take}
use Rattle.std.specs.Prelude.{string_bytes, decimal, codes}
use Rattle.std.specs.List.{join_by}
use Rattle.lot_core.specs.Lines.{line_of}
use Rattle.lot_core.proofs.printing.push_queue.Given as goal

abbrev pub invariant-loop-place : goal.invariant-loop-place
invariant-loop-place l = string_bytes l.out ≡ string_bytes l.fn.out ++ join_by decimal (codes ",") (take l.place (line_of l.lines l.key))
