use Rattle.lot_core.proofs.Permits.{semaphore_step_sound}
use Rattle.lot_core.proofs.LockParts.{lock_step_sound}
use Rattle.lot_core.proofs.CondParts.{cond_step_sound}
use Rattle.lot_core.proofs.PartLaws.{whole_parts_sound, reached_parts, opening_parts}
use Rattle.lot_core.proofs.laws.every_step_keeps_its_part_sound.Goals as goal

pub returns : goal.returns
returns c = record {
  opening = opening_parts;
  lock_part = lock_step_sound;
  condition_part = cond_step_sound;
  semaphore_part = semaphore_step_sound;
  whole = whole_parts_sound;
  reached = reached_parts;
}
