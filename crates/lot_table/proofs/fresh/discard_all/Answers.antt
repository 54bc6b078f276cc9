use Rattle.lot_bucket.specs.Agrees.{IsSpent}
use Rattle.lot_table.proofs.Spending.{all_left, last_out}
use Rattle.lot_table.proofs.fresh.discard_all.Goals as goal

pub loop-bucket-preserved : goal.loop-bucket-preserved
loop-bucket-preserved g c = all_left (λ i b. IsSpent b) _ _ _ c.pop.ensures.items c.loop-bucket.invariant

pub discard-requires : goal.discard-requires
discard-requires g c = last_out (λ i b. IsSpent b) _ _ _ _ c.pop.ensures.items c.in-Some.is c.loop-bucket.invariant
