use Rattle.lot_scheme.specs.SemCalls.{TriesPermit}
use Rattle.lot_scheme.proofs.SemNotes.{told_of, tries}
use Rattle.lot_scheme.proofs.scheme.LotScheme.try_take_permit.Goals as goal

pub returns : goal.returns
returns g c =
    told_of (λ p q. TriesPermit p c.args.key c.try_take_permit-pass.result.1 q) c.into_pass.result c.try_take_permit-pass.result.0
    c.into_pass.ensures.same c.new.ensures
    (tries c.into_pass.result c.args.key c.try_take_permit-pass.result.1 c.try_take_permit-pass.result.0 c.try_take_permit-pass.ensures.entries)
