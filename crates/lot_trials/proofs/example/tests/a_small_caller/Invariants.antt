use Rattle.lot_sync.proofs.Naming.{table_name, lot_name}
use Rattle.lot_trials.proofs.example.tests.a_small_caller.Given as goal

abbrev pub ghosts-raised-N-Name : goal.ghosts-raised-N-Name
ghosts-raised-N-Name g a = table_name a.opened

abbrev pub ghosts-raised-N-LotName : goal.ghosts-raised-N-LotName
ghosts-raised-N-LotName g a = lot_name a.opened
