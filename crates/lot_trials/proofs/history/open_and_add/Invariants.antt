use Rattle.lot_sync.proofs.Naming.{table_name, lot_name}
use Rattle.lot_trials.proofs.history.open_and_add.Given as goal

abbrev pub ghosts-add_in_turn-N-Name : goal.ghosts-add_in_turn-N-Name
ghosts-add_in_turn-N-Name g a = table_name a.opened

abbrev pub ghosts-add_in_turn-N-LotName : goal.ghosts-add_in_turn-N-LotName
ghosts-add_in_turn-N-LotName g a = lot_name a.opened
