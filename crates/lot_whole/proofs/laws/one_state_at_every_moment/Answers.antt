use Rattle.lot_whole.proofs.Moments.{one_state}
use Rattle.lot_whole.proofs.laws.one_state_at_every_moment.Goals as goal

pub returns : goal.returns
returns g c = one_state g.V.Keeps
