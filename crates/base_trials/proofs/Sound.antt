-- A call of `step` keeps a sound state sound, whatever it answers.
use Rattle.std.proofs.Common.{sym, subst}
use Rattle.std.specs.Prelude.{Result, Ok, Err}
use Rattle.lot_events.specs.declared.events.Event.{Event}
use Rattle.lot_events.specs.declared.events.Seen.{Seen}
use Rattle.lot_core.specs.declared.state.CoreFault.{CoreFault}
use Rattle.lot_core.specs.declared.state.CoreFault.TheVariants.{BadLimits, NoMemory, NotEnabled}
use Rattle.lot_core.specs.Model.{StateView}
use Rattle.lot_core.specs.Steps.{Allowed, after}
use Rattle.lot_core.specs.Sound.{IsSound}
use Rattle.lot_core.specs.State.{Answers}

pub answered_sound : ((s : StateView) (e : Event) → IsSound s → Allowed s e → IsSound (after s e)) →
    (s : StateView) (e : Event) (answer : Result Seen CoreFault) (r : StateView) → Answers s e answer r → IsSound s → IsSound r
answered_sound keeps s e (Ok saw) r answers sound = subst IsSound (sym answers.1) (keeps s e sound answers.0)
answered_sound keeps s e (Err NotEnabled) r answers sound = subst IsSound (sym answers.1) sound
answered_sound keeps s e (Err NoMemory) r answers sound = subst IsSound (sym answers.2) sound
answered_sound keeps s e (Err BadLimits) r answers sound = absurd answers
