use Rattle.std.proofs.Common.{rules}
use Rattle.lot_bucket.proofs.bucket.Bucket.dequeue_count.Goals as goal

pub returns-clause-took : goal.returns-clause-took
returns-clause-took g c = search rules

pub returns-clause-beyond : goal.returns-clause-beyond
returns-clause-beyond g c = c.take_count-taken.ensures.beyond
