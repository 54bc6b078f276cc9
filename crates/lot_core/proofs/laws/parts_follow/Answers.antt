use Rattle.lot_core.proofs.Following.{lock_follows, cond_follows, semaphore_follows, lock_part_allows, cond_part_allows}
use Rattle.lot_core.proofs.Following.{semaphore_part_allows}
use Rattle.lot_core.proofs.laws.parts_follow.Goals as goal

pub returns : goal.returns
returns c = record {
  lock_part = lock_follows;
  condition_part = cond_follows;
  semaphore_part = semaphore_follows;
  lock_allowed = lock_part_allows;
  cond_allowed = cond_part_allows;
  semaphore_allowed = semaphore_part_allows;
}
