use Rattle.std.proofs.Common.{rules}
use Rattle.lot_bucket.proofs.bucket.Bucket.put_root.Goals as goal

pub put-requires-clause-free : goal.put-requires-clause-free
put-requires-clause-free g c = search rules

pub returns : goal.returns
returns g c = search rules
