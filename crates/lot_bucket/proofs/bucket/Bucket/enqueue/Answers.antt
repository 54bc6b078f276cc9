use Rattle.std.proofs.Common.{rules}
use Rattle.lot_bucket.proofs.bucket.Bucket.enqueue.Goals as goal

pub returns : goal.returns
returns g c = search rules
