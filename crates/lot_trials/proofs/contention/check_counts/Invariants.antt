use Rattle.lot_sync.proofs.Naming.{table_name, lot_name}
use Rattle.lot_trials.proofs.contention.check_counts.Given as goal

abbrev pub ghosts-counts_of-N-Name : goal.ghosts-counts_of-N-Name
ghosts-counts_of-N-Name g a = table_name a.opened

abbrev pub ghosts-counts_of-N-LotName : goal.ghosts-counts_of-N-LotName
ghosts-counts_of-N-LotName g a = lot_name a.opened
