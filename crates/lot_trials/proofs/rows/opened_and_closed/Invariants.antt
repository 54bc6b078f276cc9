use Rattle.lot_sync.proofs.Naming.{table_name, lot_name}
use Rattle.lot_trials.proofs.rows.opened_and_closed.Given as goal

abbrev pub ghosts-started_and_closed-N-Name : goal.ghosts-started_and_closed-N-Name
ghosts-started_and_closed-N-Name g a = table_name a.opened

abbrev pub ghosts-started_and_closed-N-LotName : goal.ghosts-started_and_closed-N-LotName
ghosts-started_and_closed-N-LotName g a = lot_name a.opened
