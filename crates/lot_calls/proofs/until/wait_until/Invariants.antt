use Rattle.std.proofs.Common.{◌≡◌, false, Bor}
use Rattle.lot_sync.specs.Lot.{Owns, HasShape}
use Rattle.lot_calls.specs.Waits.{WaitsOn}
use Rattle.lot_calls.proofs.until.wait_until.Given as goal

abbrev pub invariant-loop : goal.invariant-loop
invariant-loop g l =
    (goal.iterator-loop g).can_next l.iterator' × (goal.iterator-loop g).is_finite l.iterator' ×
    WaitsOn g.V.Keeps (λ x. (v : Bor g.row.V.Denot) × (v.now ≡ x) × g.F.Fn.post l.ready (v, tt) false) l.fn.pass l.fn.held l.fn.cond
    l.fn.moment.now l.held l.pass
    × Owns l.pass l.fn.held.key × HasShape l.fn.lot l.pass
