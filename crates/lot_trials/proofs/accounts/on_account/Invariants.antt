use Rattle.lot_sync.proofs.Naming.{table_name, lot_name}
use Rattle.lot_trials.proofs.accounts.on_account.Given as goal

abbrev pub ghosts-open_and_move-N-Name : goal.ghosts-open_and_move-N-Name
ghosts-open_and_move-N-Name g a = table_name a.opened

abbrev pub ghosts-open_and_move-N-LotName : goal.ghosts-open_and_move-N-LotName
ghosts-open_and_move-N-LotName g a = lot_name a.opened
