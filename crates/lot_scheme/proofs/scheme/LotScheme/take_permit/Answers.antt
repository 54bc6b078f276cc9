use Rattle.lot_scheme.specs.SemCalls.{TakesPermit}
use Rattle.lot_scheme.proofs.SemNotes.{told_of, takes}
use Rattle.lot_scheme.proofs.scheme.LotScheme.take_permit.Goals as goal

pub returns : goal.returns
returns g c =
    told_of (λ p q. TakesPermit p c.args.key c.take_permit-pass.result.1 q) c.into_pass.result c.take_permit-pass.result.0
    c.into_pass.ensures.same c.new.ensures
    (takes c.into_pass.result c.args.key c.take_permit-pass.result.1 c.take_permit-pass.result.0 c.take_permit-pass.ensures.entries)
