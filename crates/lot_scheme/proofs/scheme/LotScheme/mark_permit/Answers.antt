use Rattle.lot_scheme.specs.SemCalls.{MarksPermit}
use Rattle.lot_scheme.proofs.SemNotes.{told_of, marks}
use Rattle.lot_scheme.proofs.scheme.LotScheme.mark_permit.Goals as goal

pub returns : goal.returns
returns g c =
    told_of (λ p q. MarksPermit p c.args.key c.mark_permit-pass.result.1 q) c.into_pass.result c.mark_permit-pass.result.0
    c.into_pass.ensures.same c.new.ensures
    (marks c.into_pass.result c.args.key c.mark_permit-pass.result.1 c.mark_permit-pass.result.0 c.mark_permit-pass.ensures.entry)
