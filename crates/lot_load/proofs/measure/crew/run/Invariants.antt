use Rattle.lot_sync.proofs.Naming.{table_name, lot_name}
use Rattle.lot_load.proofs.measure.crew.run.Given as goal

abbrev pub ghosts-run_on-N-Name : goal.ghosts-run_on-N-Name
ghosts-run_on-N-Name g a = table_name a.opened

abbrev pub ghosts-run_on-N-LotName : goal.ghosts-run_on-N-LotName
ghosts-run_on-N-LotName g a = lot_name a.opened
