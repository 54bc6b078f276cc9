use Rattle.lot_sync.proofs.Naming.{table_name, lot_name}
use Rattle.lot_trials.proofs.runs.all_that_was_done_is_one_run_of_the_model.Given as goal

abbrev pub ghosts-one_run-N-Name : goal.ghosts-one_run-N-Name
ghosts-one_run-N-Name g a = table_name a.opened

abbrev pub ghosts-one_run-N-LotName : goal.ghosts-one_run-N-LotName
ghosts-one_run-N-LotName g a = lot_name a.opened
