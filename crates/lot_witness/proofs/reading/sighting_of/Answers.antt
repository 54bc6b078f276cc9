use Rattle.std.proofs.Common.{◌≡◌, ◌++◌, ◌∷◌, [], sym, ap, ◌∙◌, subst, arith, None, Some, take, drop}
use Rattle.std.proofs.lemmas.List.{take_rest}
use Rattle.std.proofs.lemmas.Str.Pattern.{rfind_char}
use Rattle.lot_events.specs.Spelling.{Spells}
use Rattle.lot_events.proofs.Spelled.{one_event}
use Rattle.lot_witness.specs.Spelling.{IsSightOf}
use Rattle.lot_witness.proofs.Lines.{cut, cut_at, cut_has_space, joined}
use Rattle.lot_witness.proofs.reading.sighting_of.Goals as goal

pub returns-in_default-clause-none : goal.returns-in_default-clause-none
returns-in_default-clause-none c x spells =
    cut_has_space c.args.line.now x (cut c.args.line.now x spells)
    (rfind_char 32 c.args.line.now None c.in_default.ensures.cases (omega arith))

pub returns-in_default-event_in-clause-none : goal.returns-in_default-event_in-clause-none
returns-in_default-event_in-clause-none c x spells =
    let is = cut c.args.line.now x spells in
    let at = cut_at c.args.line.now x c.in-Some.space is
    (rfind_char 32 c.args.line.now (Some c.in-Some.space) c.in-Some.ensures.cases (omega arith)) in
    c.in_default-event_in.ensures.none x.event
    (subst (λ f. Spells (f ++ 10 ∷ []) x.event) (sym (ap (take c.in-Some.space) c.as_bytes-bytes.ensures.value ∙ at.0)) is.spells)

pub returns-in_default-seen_of-clause-none : goal.returns-in_default-seen_of-clause-none
returns-in_default-seen_of-clause-none c x spells =
    let is = cut c.args.line.now x spells in
    let at = cut_at c.args.line.now x c.in-Some.space is
    (rfind_char 32 c.args.line.now (Some c.in-Some.space) c.in-Some.ensures.cases (omega arith)) in
    let same : x.event ≡ c.in-Some-event_in.event =
    one_event (is.front ++ 10 ∷ []) x.event c.in-Some-event_in.event is.spells
    (subst (λ f. Spells (f ++ 10 ∷ []) c.in-Some-event_in.event) (ap (take c.in-Some.space) c.as_bytes-bytes.ensures.value ∙ at.0)
    c.in-Some-event_in.ensures.some) in
    c.in_default-seen_of.ensures.none x.saw (subst (λ e. IsSightOf e x.saw) same is.sight)
    (take_rest c.as_bytes-bytes.result.now c.in-Some.space ∙ ap (drop c.in-Some.space) c.as_bytes-bytes.ensures.value ∙ at.1)

pub returns-clause-some : goal.returns-clause-some
returns-clause-some c =
    let front = c.as_bytes-bytes.ensures.value in
    joined c.args.line.now _ c.in-Some.space
    (subst (λ l. Spells (take c.in-Some.space l ++ 10 ∷ []) c.in-Some-event_in.event) front
    c.in-Some-event_in.ensures.some)
    c.in-Some-seen_of.ensures.some.0
    (ap (drop c.in-Some.space) (sym front) ∙ sym (take_rest c.as_bytes-bytes.result.now c.in-Some.space) ∙ c.in-Some-seen_of.ensures.some.1)
