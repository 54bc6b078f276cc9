use Rattle.std.proofs.Common.{◌≡◌, ℕ, ◌%◌}
use Rattle.lot_sync.specs.Lot.{◌≈◌, one_permit_more}
use Rattle.lot_sync.specs.Traces.{Adds}
use Rattle.gallery.specs.Leases.{SoughtTrace}
use Rattle.gallery.proofs.connections.Pool.take_out.Given as goal

abbrev pub invariant-loop : goal.invariant-loop
invariant-loop g l =
    (goal.iterator-loop g).can_next l.iterator' × (goal.iterator-loop g).is_finite l.iterator' × (l.pass ≈ one_permit_more l.fn.pass 2)
    × ((n : ℕ) × (l.key ≡ n % 2) × Adds l.fn.pass.made (SoughtTrace l.fn.pass.thread 2 n) l.pass.made)
