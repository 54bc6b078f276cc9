use Rattle.lot_core.proofs.Law.{runs_are_sound}
use Rattle.lot_core.proofs.WellFormed.{runs_are_formed}
use Rattle.lot_core.specs.Model.{opening_with}
use Rattle.lot_core.specs.Steps.{after_all}
use Rattle.lot_order.proofs.Progress.{goes_on}
use Rattle.lot_order.proofs.Orderly.{event_ordered, run_ordered}
use Rattle.lot_order.proofs.laws.orderly_runs_go_on.Goals as goal

pub returns-clause-event : goal.returns-clause-event
returns-clause-event g c = event_ordered g.O.KeyOrder.above

pub returns-clause-run : goal.returns-clause-run
returns-clause-run g c threads locks conds permits events run =
    run_ordered g.O.KeyOrder.above (opening_with threads locks conds permits) events (λ t. tt) run

pub returns-clause-goes_on : goal.returns-clause-goes_on
returns-clause-goes_on g c level threads locks conds permits events rises run =
    let orderly = run_ordered g.O.KeyOrder.above (opening_with threads locks conds permits) events (λ v. tt) run in
    goes_on g.O.KeyOrder.above (after_all (opening_with threads locks conds permits) events)
    (runs_are_sound threads locks conds permits events orderly.0) (runs_are_formed threads locks conds permits events orderly.0)
    orderly.1 level rises
