use Rattle.lot_sync.proofs.Naming.{table_name, lot_name}
use Rattle.lot_trials.proofs.shares.what_a_thread_left_of_its_own_is_there.Given as goal

abbrev pub ghosts-play-N-Name : goal.ghosts-play-N-Name
ghosts-play-N-Name g a = table_name a.opened

abbrev pub ghosts-play-N-LotName : goal.ghosts-play-N-LotName
ghosts-play-N-LotName g a = lot_name a.opened
