use Rattle.lot_sync.proofs.Naming.{table_name, lot_name}
use Rattle.starter.proofs.run.Given as goal

-- what the name of the lot means: the same in every program, but for the argument that has the `Opened`
abbrev pub ghosts-run_on-N-Name : goal.ghosts-run_on-N-Name
ghosts-run_on-N-Name g a = table_name a.opened

abbrev pub ghosts-run_on-N-LotName : goal.ghosts-run_on-N-LotName
ghosts-run_on-N-LotName g a = lot_name a.opened
