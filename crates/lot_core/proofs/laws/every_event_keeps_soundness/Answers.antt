use Rattle.lot_core.proofs.Law.{opening_sound, sound_kept, reached_sound, event_kept}
use Rattle.lot_core.proofs.laws.every_event_keeps_soundness.Goals as goal

pub returns : goal.returns
returns c = record { opening = opening_sound; event = sound_kept; reached = reached_sound; further = event_kept }
