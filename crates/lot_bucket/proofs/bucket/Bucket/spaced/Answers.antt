use Rattle.std.proofs.Common.{refl, ◌∙◌}
use Rattle.lot_bucket.proofs.bucket.Bucket.spaced.Goals as goal

pub returns : goal.returns
returns g c = c.closed.ensures ∙ rw (c.in_ok-queue.ensures, c.in_ok-places.ensures) refl
