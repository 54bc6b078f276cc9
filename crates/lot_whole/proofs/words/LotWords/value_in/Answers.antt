use Rattle.std.proofs.Common.{rules, sym, subst}
use Rattle.lot_rights.specs.Shown.{PassShown}
use Rattle.lot_words.specs.declared.views.Place.TheVariants.{InSlot, Out}
use Rattle.lot_words.specs.Values.{IsIn}
use Rattle.lot_words.proofs.Moving.{placed_at}
use Rattle.lot_whole.proofs.words.LotWords.value_in.Goals as goal

pub unreachable-requires : goal.unreachable-requires
unreachable-requires g c = c.in_default.not-None (c.exchange_value-pass.ensures.found Out c.requires.holds.1)

pub returns-clause-lies : goal.returns-clause-lies
returns-clause-lies g c = subst (λ (z : PassShown _). IsIn z.own.locks c.args.key c.args.value) (sym c.exchange_value-pass.ensures.pass.1)
    (placed_at c.args.pass.own.locks c.args.key Out (InSlot c.args.value) c.requires.holds.1)

pub returns-clause-pass : goal.returns-clause-pass
returns-clause-pass g c = search rules
