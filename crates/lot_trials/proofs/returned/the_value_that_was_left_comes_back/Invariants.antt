use Rattle.lot_sync.proofs.Naming.{table_name, lot_name}
use Rattle.lot_trials.proofs.returned.the_value_that_was_left_comes_back.Given as goal

abbrev pub ghosts-returned-N-Name : goal.ghosts-returned-N-Name
ghosts-returned-N-Name g a = table_name a.opened

abbrev pub ghosts-returned-N-LotName : goal.ghosts-returned-N-LotName
ghosts-returned-N-LotName g a = lot_name a.opened
