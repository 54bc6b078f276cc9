use Rattle.lot_scheme.specs.SemCalls.{FreesPermit}
use Rattle.lot_scheme.proofs.SemNotes.{told_of, frees}
use Rattle.lot_scheme.proofs.scheme.LotScheme.free_permit.Goals as goal

pub returns : goal.returns
returns g c =
    told_of (λ p q. FreesPermit p c.args.key c.free_permit-pass.result.1 q) c.into_pass.result c.free_permit-pass.result.0
    c.into_pass.ensures.same c.new.ensures
    (frees c.into_pass.result c.args.key c.free_permit-pass.result.1 c.free_permit-pass.result.0 c.free_permit-pass.ensures.entries)
