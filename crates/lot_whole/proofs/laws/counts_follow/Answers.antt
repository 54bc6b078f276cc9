use Rattle.lot_whole.proofs.Order.{counts_follow}
use Rattle.lot_whole.proofs.laws.counts_follow.Goals as goal

pub returns : goal.returns
returns c = counts_follow
