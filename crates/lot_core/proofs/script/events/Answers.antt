use Rattle.std.proofs.Common.{List, ℕ, sym, subst, Ok, Err}
use Rattle.std.specs.Prelude.{IfErr}
use Rattle.lot_events.specs.declared.events.Event.{Event}
use Rattle.lot_core.specs.Script.{BeginsWith}
use Rattle.lot_core.specs.Reading.{SpellsFront}
use Rattle.lot_core.proofs.Scripts.{front_push, front_first}
use Rattle.lot_core.proofs.script.events.Goals as goal

pub returns-in_err-push-clause-some : goal.returns-in_err-push-clause-some
returns-in_err-push-clause-some c =
    let found = front_first c.args.lines.now c.loop-event.events.items c.loop-event.rest.now c.in-Some.event c.in-Some.behind.now
    c.loop-event.invariant c.in-Some.ensures.some in
    elim c.from_residual.result as (λ r. IfErr r (λ a. (e : Event) × (rest : List ℕ) × BeginsWith c.args.lines.now e rest)) [
      | Ok x ↦ tt
      | Err e ↦ found
    ]

pub loop-event-preserved : goal.loop-event-preserved
loop-event-preserved c =
    subst (λ events. SpellsFront c.args.lines.now events c.in-Some.behind.now) (sym (c.in_ok-push.ensures {u = tt}).items)
    (front_push c.args.lines.now c.loop-event.events.items c.loop-event.rest.now c.in-Some.event c.in-Some.behind.now
    c.loop-event.invariant c.in-Some.ensures.some)
