use Rattle.lot_sync.proofs.Naming.{table_name, lot_name}
use Rattle.lot_trials.proofs.many.a_sleeper_on_the_last_of_a_million_keys_is_handed_its_lock.Given as goal

abbrev pub ghosts-handed-N-Name : goal.ghosts-handed-N-Name
ghosts-handed-N-Name g a = table_name a.opened

abbrev pub ghosts-handed-N-LotName : goal.ghosts-handed-N-LotName
ghosts-handed-N-LotName g a = lot_name a.opened
