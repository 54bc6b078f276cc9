use Rattle.lot_sync.proofs.Naming.{table_name, lot_name}
use Rattle.lot_trials.proofs.contention.a_count_stands_in_the_history.Given as goal

abbrev pub ghosts-noted-N-Name : goal.ghosts-noted-N-Name
ghosts-noted-N-Name g a = table_name a.opened

abbrev pub ghosts-noted-N-LotName : goal.ghosts-noted-N-LotName
ghosts-noted-N-LotName g a = lot_name a.opened
