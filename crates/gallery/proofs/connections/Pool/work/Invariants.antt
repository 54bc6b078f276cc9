use Rattle.lot_sync.specs.Lot.{OwnsNone}
use Rattle.gallery.proofs.connections.Pool.work.Given as goal

abbrev pub invariant-loop : goal.invariant-loop
invariant-loop g l = OwnsNone l.pass
