use Rattle.std.proofs.Common.{[], sym, subst}
use Rattle.lot_core.specs.Sound.{IsSound}
use Rattle.base_trials.proofs.rights.states.sound.three_events_keep_a_state_sound.Goals as goal

pub take_and_mark-requires : goal.take_and_mark-requires
take_and_mark-requires g c = subst IsSound (sym (c.in_ok-state.ensures {u = tt}).1) (c.every_event_keeps_soundness.ensures.opening 2 1 0 [])
