use Rattle.lot_bucket.specs.Agrees.{AgreesClosed}
use Rattle.lot_table.proofs.Spending.{all_left, last_out, closed_spent}
use Rattle.lot_table.proofs.closing.spend_empty.Goals as goal

pub loop-bucket-init : goal.loop-bucket-init
loop-bucket-init g c = c.requires

pub loop-bucket-preserved : goal.loop-bucket-preserved
loop-bucket-preserved g c = all_left (λ i b. AgreesClosed g.R.Root.view b) _ _ _ c.pop.ensures.items c.loop-bucket.invariant

pub discard-requires : goal.discard-requires
discard-requires g c =
    closed_spent g.R.Root.view c.in-Some.bucket _
    (last_out (λ i b. AgreesClosed g.R.Root.view b) _ _ _ _ c.pop.ensures.items c.in-Some.is c.loop-bucket.invariant) c.close.ensures
