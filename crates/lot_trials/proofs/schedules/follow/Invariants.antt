use Rattle.lot_sync.proofs.Naming.{table_name, lot_name}
use Rattle.lot_trials.proofs.schedules.follow.Given as goal

abbrev pub ghosts-follow_on-N-Name : goal.ghosts-follow_on-N-Name
ghosts-follow_on-N-Name g a = table_name a.opened

abbrev pub ghosts-follow_on-N-LotName : goal.ghosts-follow_on-N-LotName
ghosts-follow_on-N-LotName g a = lot_name a.opened
