use Rattle.std.proofs.Common.{◌++◌, ◌∷◌, [], length-append, subst, arith}
use Rattle.std.specs.Prelude.{IfSome, IfNone}
use Rattle.lot_events.specs.declared.events.Event.{Event}
use Rattle.lot_events.specs.Spelling.{Spells}
use Rattle.lot_witness.proofs.Clean.{event_short}
use Rattle.lot_witness.proofs.Lines.{ended}
use Rattle.lot_witness.proofs.reading.event_in.Goals as goal

pub returns-then-end-ge27-clause-none : goal.returns-then-end-ge27-clause-none
returns-then-end-ge27-clause-none c e spells =
    let short = event_short (c.args.front.now ++ 10 ∷ []) e spells in
    omega (arith, short, length-append c.args.front.now (10 ∷ []), c.if-end-ge27.true)

pub returns-clause-some : goal.returns-clause-some
returns-clause-some c =
    subst (λ line. IfSome c.only_event.result (Spells line))
    (ended c.args.front.now c.copy_from_slice.new.self 27 c.copy_from_slice.ensures.after (omega (arith, c.if-end-ge27.false)))
    c.only_event.ensures.some

pub returns-clause-none : goal.returns-clause-none
returns-clause-none c =
    subst (λ line. IfNone c.only_event.result ((e : Event) → ¬ Spells line e))
    (ended c.args.front.now c.copy_from_slice.new.self 27 c.copy_from_slice.ensures.after (omega (arith, c.if-end-ge27.false)))
    c.only_event.ensures.none
