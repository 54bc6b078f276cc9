use Rattle.lot_sync.proofs.Naming.{table_name, lot_name}
use Rattle.lot_trials.proofs.many.table_of_many_stays.Given as goal

abbrev pub ghosts-table_stays-N-Name : goal.ghosts-table_stays-N-Name
ghosts-table_stays-N-Name g a = table_name a.opened

abbrev pub ghosts-table_stays-N-LotName : goal.ghosts-table_stays-N-LotName
ghosts-table_stays-N-LotName g a = lot_name a.opened
