use Rattle.std.proofs.Common.{◌≡◌, drop}
use Rattle.lot_core.specs.Model.{put}
use Rattle.lot_core.specs.Lines.{line_of, KeepsKeys}
use Rattle.lot_core.proofs.lines.Lines.dequeue.Given as goal

abbrev pub invariant-loop : goal.invariant-loop
invariant-loop l =
    (line_of l.self ≡ put (line_of l.initial.self) l.key (drop l.counter (line_of l.initial.self l.key))) × KeepsKeys l.initial.self l.self
