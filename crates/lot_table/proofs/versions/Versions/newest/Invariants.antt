use Rattle.lot_table.specs.Cells.{IsNext}
use Rattle.lot_table.proofs.versions.Versions.newest.Given as goal

abbrev pub invariant-loop-place : goal.invariant-loop-place
invariant-loop-place g l = record { next : IsNext l.self.first l.self.later.items l.place l.next }
