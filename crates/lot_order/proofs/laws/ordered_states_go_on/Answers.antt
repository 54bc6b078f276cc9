use Rattle.lot_order.proofs.Circles.{no_circle}
use Rattle.lot_order.proofs.Progress.{goes_on, nothing_kept}
use Rattle.lot_order.proofs.laws.ordered_states_go_on.Goals as goal

pub returns : goal.returns
returns g c = record {
  no_circle = λ level s rises ordered. no_circle g.O.KeyOrder.above level rises s ordered;
  goes_on = λ level s rises sound formed ordered. goes_on g.O.KeyOrder.above s sound formed ordered level rises;
  nothing_kept = λ level s rises sound formed ordered. nothing_kept g.O.KeyOrder.above s sound formed ordered level rises;
}
