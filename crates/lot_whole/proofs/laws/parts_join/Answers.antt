use Rattle.lot_whole.proofs.Whole.{parts_join, all_move}
use Rattle.lot_whole.proofs.laws.parts_join.Goals as goal

pub returns : goal.returns
returns g c = record { joins = parts_join g.V.Keeps; stands = all_move }
