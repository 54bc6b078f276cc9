use Rattle.lot_core.proofs.SemaphoreRows.{all_out_is}
use Rattle.lot_core.proofs.semaphores.Semaphores.all_out.Goals as goal

pub returns : goal.returns
returns c = all_out_is c.args.self.now c.args.sem c.index-semaphore.result.now c.requires c.index-semaphore.ensures
