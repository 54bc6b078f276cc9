use Rattle.lot_sync.proofs.Naming.{table_name, lot_name}
use Rattle.lot_load.proofs.count.count.Given as goal

abbrev pub ghosts-run-N-Name : goal.ghosts-run-N-Name
ghosts-run-N-Name g a = table_name a.opened

abbrev pub ghosts-run-N-LotName : goal.ghosts-run-N-LotName
ghosts-run-N-LotName g a = lot_name a.opened
