use Rattle.std.proofs.Common.{rules}
use Rattle.lot_bucket.proofs.bucket.Bucket.dequeue_all.Goals as goal

pub returns-clause-line : goal.returns-clause-line
returns-clause-line g c = search rules

pub returns-clause-beyond : goal.returns-clause-beyond
returns-clause-beyond g c = c.take_all.ensures.beyond
