use Rattle.lot_core.proofs.Soundness.{sound_from, locks_from, conds_from, semaphores_from}
use Rattle.lot_core.proofs.state.State.is_sound.Goals as goal

pub returns-then-not-are_locks_sound : goal.returns-then-not-are_locks_sound
returns-then-not-are_locks_sound c =
    ((λ e. absurd (cc)), (λ sound. let yes = c.are_locks_sound.ensures.1 (locks_from c.args.self.now sound) in cc))

pub returns-then-not-are_conds_sound : goal.returns-then-not-are_conds_sound
returns-then-not-are_conds_sound c =
    ((λ e. absurd (cc)), (λ sound. let yes = c.are_conds_sound.ensures.1 (conds_from c.args.self.now sound) in cc))

pub returns : goal.returns
returns c =
    let s = c.args.self.now in (
      (λ e. sound_from s (c.are_locks_sound.ensures.0 (cc)) (c.are_conds_sound.ensures.0 (cc)) (c.are_semaphores_sound.ensures.0 e)),
      (λ sound. c.are_semaphores_sound.ensures.1 (semaphores_from s sound)),
    )
