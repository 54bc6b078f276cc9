use Rattle.std.proofs.Common.{rules, sym, subst, ◌∙◌}
use Rattle.lot_rights.specs.Shown.{PassShown}
use Rattle.lot_words.specs.declared.views.Place.TheVariants.{InSlot, Out}
use Rattle.lot_words.specs.Values.{IsIn, IsOut}
use Rattle.lot_words.proofs.Moving.{same_some, placed_at}
use Rattle.lot_whole.proofs.words.LotWords.value_out.Goals as goal

pub unreachable-requires : goal.unreachable-requires
unreachable-requires g c = c.in_default.not-Some c.requires.lies.0
    (c.exchange_value-pass.ensures.found (InSlot c.requires.lies.0) c.requires.lies.1)

pub returns-clause-value : goal.returns-clause-value
returns-clause-value g c =
    let same = same_some c.requires.lies.0 c.in-Some.value
    (sym (c.exchange_value-pass.ensures.found (InSlot c.requires.lies.0) c.requires.lies.1) ∙ c.in-Some.is) in
    subst (IsIn c.args.pass.own.locks c.args.key) same c.requires.lies.1

pub returns-clause-out : goal.returns-clause-out
returns-clause-out g c = subst (λ (z : PassShown _). IsOut z.own.locks c.args.key) (sym c.exchange_value-pass.ensures.pass.1)
    (placed_at c.args.pass.own.locks c.args.key (InSlot c.requires.lies.0) Out c.requires.lies.1)

pub exchange_value-pass-requires-clause-holds : goal.exchange_value-pass-requires-clause-holds
exchange_value-pass-requires-clause-holds g c = search rules

pub exchange_value-pass-requires-clause-home : goal.exchange_value-pass-requires-clause-home
exchange_value-pass-requires-clause-home g c = search rules

pub returns-clause-pass : goal.returns-clause-pass
returns-clause-pass g c = search rules
