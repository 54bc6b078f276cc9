use Rattle.std.proofs.Common.{rules}
use Rattle.lot_bucket.proofs.settled.Settled.lend.Goals as goal

pub f-requires : goal.f-requires
f-requires g c = search rules

pub invariant_of-self : goal.invariant_of-self
invariant_of-self g c = search rules

pub returns : goal.returns
returns g c = search rules
