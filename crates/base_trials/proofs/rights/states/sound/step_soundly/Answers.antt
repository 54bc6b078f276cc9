use Rattle.base_trials.proofs.Sound.{answered_sound}
use Rattle.base_trials.proofs.rights.states.sound.step_soundly.Goals as goal

pub returns : goal.returns
returns c = answered_sound c.every_event_keeps_soundness.ensures.event _ _ _ _ c.step.ensures c.requires

pub returns-in_err-step : goal.returns-in_err-step
returns-in_err-step c = answered_sound c.every_event_keeps_soundness.ensures.event _ _ _ _ c.step.ensures c.requires
