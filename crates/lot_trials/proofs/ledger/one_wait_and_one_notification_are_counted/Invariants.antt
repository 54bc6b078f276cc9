use Rattle.lot_sync.proofs.Naming.{table_name, lot_name}
use Rattle.lot_trials.proofs.ledger.one_wait_and_one_notification_are_counted.Given as goal

abbrev pub ghosts-play-N-Name : goal.ghosts-play-N-Name
ghosts-play-N-Name g a = table_name a.opened

abbrev pub ghosts-play-N-LotName : goal.ghosts-play-N-LotName
ghosts-play-N-LotName g a = lot_name a.opened
