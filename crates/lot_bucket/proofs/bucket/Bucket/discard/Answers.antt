use Rattle.std.proofs.Common.{ap, ◌∙◌}
use Rattle.lot_bucket.specs.Places.{root_at}
use Rattle.lot_bucket.specs.Contents.{Contents}
use Rattle.lot_bucket.proofs.bucket.Bucket.discard.Goals as goal

pub discard-requires : goal.discard-requires
discard-requires g c = λ k. ap (λ (b : Contents g.row.R.Denot). root_at k b.places) c.self.view_is ∙ c.requires.rootless k
