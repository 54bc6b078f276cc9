use Rattle.std.proofs.Common.{rules}
use Rattle.lot_bucket.proofs.bucket.Bucket.take_root.Goals as goal

pub take-requires : goal.take-requires
take-requires g c = search rules

pub returns-clause-root : goal.returns-clause-root
returns-clause-root g c = search rules

pub returns-clause-left : goal.returns-clause-left
returns-clause-left g c = search rules
