use Rattle.lot_sync.specs.Lot.{◌≈◌}
use Rattle.lot_trials.specs.Order.{HasTakenNone, HasCalled}
use Rattle.lot_trials.proofs.ledger.call_once.Given as goal

abbrev pub invariant-loop : goal.invariant-loop
invariant-loop g l = record { same : l.pass ≈ l.fn.pass; called : HasTakenNone 1 l.fn.pass → HasCalled 1 l.pass }
